-- Bodies of the table are short, and have no brackets.
use Rattle.std.proofs.Common.{◌≡◌, rules, ℕ, ◌≤◌, ◌-◌, ◌==◌, false, lit≤, List, [], ◌∷◌, length, sym, ap, ◌∙◌, inl, inr, arith, length-append}
use Rattle.std.specs.List.{All}
use Rattle.std.specs.Char.{digit_value, to_ascii_lowercase}
use Rattle.std.specs.Str.{str_to_ascii_lowercase}
use Rattle.std.proofs.lemmas.List.{length-map}
use Rattle.std.proofs.lemmas.Bool.{eq-eqb, false≢true}
use Rattle.std.proofs.lemmas.List.Elements.{All-nil, All-cons, All-head, All-tail, All-append, All-weaker}
use Rattle.multi_token.specs.Spelling.{IsPlain}
use Rattle.multi_tag.specs.declared.name.Name.{Name}
use Rattle.multi_tag.specs.declared.name.Name.TheVariants as names
use Rattle.multi_tag.specs.declared.tag.Tag.{Tag}
use Rattle.multi_tag.specs.Number.{IsDigit}
use Rattle.multi_tag.specs.Form.{Form, IsNumber, nothing, ◌means◌, ◌or◌, between, after}
use Rattle.multi_tag.specs.Body.{table, Spells, SpellsSmall}

-- so many octets at most, without brackets
pub record IsShort (n : ℕ) (octets : List ℕ) : Type 0 where
  pub few : length octets ≤ n
  pub plain : All IsPlain octets

-- the octets of a form are short
record HasRoom {V : Type 0} (n : ℕ) (form : Form V) : Type 0 where
  short : (octets : List ℕ) (v : V) → form octets v → IsShort n octets

-- a digit is no bracket
plain_digit : (base c : ℕ) → base ≤ 16 → IsDigit base c → IsPlain c
plain_digit base c small digit = (λ e. absurd (omega (arith, ap digit_value e)), λ e. absurd (omega (arith, ap digit_value e)))

plain_code : (c : ℕ) → (c == 91) ≡ false → (c == 93) ≡ false → IsPlain c
plain_code c a b = (λ e. false≢true (sym a ∙ eq-eqb c 91 e), λ e. false≢true (sym b ∙ eq-eqb c 93 e))

-- forms
module _ {V : Type 0} (n : ℕ) where
  nothing_room : (meaning : V) → HasRoom n (nothing meaning)
  nothing_room meaning = record { short = λ octets v (empty, _). rw empty (record { few = omega arith; plain = All-nil IsPlain }) }

  means_room : {U : Type 0} (form : Form U) (meaning : U → V) → HasRoom n form → HasRoom n (form means meaning)
  means_room form meaning room = record { short = λ octets v (u, f, is). room.short octets u f }

  or_room : (a b : Form V) → HasRoom n a → HasRoom n b → HasRoom n (a or b)
  or_room a b p q = record { short = λ octets v f. elim f [ inl g ↦ p.short octets v g | inr g ↦ q.short octets v g ] }

  after_room : (c : ℕ) (form : Form V) → IsPlain c → 1 ≤ n → HasRoom (n - 1) form → HasRoom n (after c form)
  after_room c form p some room = record {
    short = λ octets v (rest, is, f). let s = room.short rest v f in rw is (record { few = omega (arith, s.few); plain = All-cons IsPlain c rest p s.plain });
  }

number_room : (n base most low high : ℕ) → base ≤ 16 → most ≤ n → HasRoom n (IsNumber base most low high)
number_room n base most low high small fits = record {
  short = λ octets v f. record { few = omega (arith, f.count); plain = All-weaker (IsDigit base) IsPlain (λ c. plain_digit base c small) octets f.each };
}

between_room : {U V : Type 0} (n c : ℕ) (first : Form U) (second : Form V) → IsPlain c → 6 ≤ n → HasRoom 5 first → HasRoom (n - 6) second → HasRoom n (between c first second)
between_room n c first second p some r q = record {
  short = λ octets v (front, rest, is, f, g).
      let s = r.short front v.0 f in
      let t = q.short rest v.1 g in
      rw is (record {
        few = omega (arith, s.few, t.few, length-append front (c ∷ rest));
        plain = All-append IsPlain front (c ∷ rest) s.plain (All-cons IsPlain c rest p t.plain);
      });
}

-- what shows that octets of a form are short
ruleset rooms = (nothing_room, means_room, or_room, after_room, number_room, between_room, plain_code)

-- rows
rest_room : (name : Name) → HasRoom (25 - length (table name).name) (table name).rest
rest_room names.Rect = search (rules, rooms) depth 12
rest_room _ = search (rules, rooms) depth 12

-- names have two octets or three, without brackets
pub record IsName (octets : List ℕ) : Type 0 where
  pub some : 2 ≤ length octets
  pub few : length octets ≤ 3
  pub plain : All IsPlain octets

pub short_names : (name : Name) → IsName (table name).name
short_names names.NewPage = record { some = lit≤ tt; few = lit≤ tt; plain = search (rules, All-nil IsPlain, All-cons IsPlain) }
short_names _ = record { some = lit≤ tt; few = lit≤ tt; plain = search (rules, All-nil IsPlain, All-cons IsPlain) }

-- a bracket is its own small letter
plain_small : (octets : List ℕ) → All IsPlain (str_to_ascii_lowercase octets) → All IsPlain octets
plain_small [] each = All-nil IsPlain
plain_small (c ∷ cs) each =
    let head : IsPlain (to_ascii_lowercase c) = All-head IsPlain (to_ascii_lowercase c) (str_to_ascii_lowercase cs) each in
    All-cons IsPlain c cs (λ e. head.0 (ap to_ascii_lowercase e), λ e. head.1 (ap to_ascii_lowercase e)) (plain_small cs (All-tail IsPlain (to_ascii_lowercase c) (str_to_ascii_lowercase cs) each))

-- a body that spells a tag has at most 25 octets, none of them a bracket
pub short_body : (body : List ℕ) (tag : Tag) → Spells body tag → IsShort 25 body
unfolding Spells SpellsSmall
short_body body tag (name, rest, is, f) =
    let short = (rest_room name).short rest tag f in
    let front = short_names name in
    let plain : All IsPlain (str_to_ascii_lowercase body) = rw is (All-append IsPlain (table name).name rest front.plain short.plain) in
    record {
      few = omega (arith, short.few, front.few, ap length is, length-append (table name).name rest, length-map body to_ascii_lowercase);
      plain = plain_small body plain;
    }
