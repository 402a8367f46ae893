-- On the way through the numbers of characters and fonts: which there are.
use Rattle.std.proofs.Common.{◌≡◌, ℕ, ◌+◌, ◌-◌, ◌<◌, ◌≤◌, Bool, true, false, cond, List, [], ◌∷◌, ◌++◌, Option, None, Some, is_some, map, sym, ap, subst, ◌∙◌, append_assoc, append-nil, arith}
use Rattle.std.proofs.lemmas.Bool.{ne_eqb}
use Rattle.std.proofs.lemmas.List.{map-append, map-id}
use Rattle.std.proofs.lemmas.List.Concat.{flat_map-append}
use Rattle.std.proofs.lemmas.List.Elements.{All-push, filter-append}
use Rattle.std.proofs.lemmas.List.FromFn.{map-range_with_len_more}
use Rattle.std.specs.Option.{option_map}
use Rattle.std.specs.Prelude.{All}
use Rattle.std.specs.List.{filter, range_with_len}
use Rattle.sign_font.specs.Sign.{SignData, font_numbered}
use Rattle.message_words.specs.Characters.{AreCharacters, IsAdded, IsOfFont, fonts_below, numbers_below, numbers_of, open_run, run_numbers}
use Rattle.message_words.specs.declared.characters.CharacterRun.{CharacterRun}
use Rattle.message_words.specs.declared.characters.FontCharacters.{FontCharacters}

-- one number more
pub numbers_more : (first end : ℕ) → first ≤ end → numbers_below first (end + 1) ≡ numbers_below first end ++ end ∷ []
numbers_more first end below =
    ap (range_with_len first) (omega (arith, below)) ∙ sym (map-id (range_with_len first (end - first + 1))) ∙ map-range_with_len_more (λ x. x) first (end - first) end (omega (arith, below))
    ∙ ap (λ l. l ++ end ∷ []) (map-id (range_with_len first (end - first)))

-- those of them that pass, with one more
pub passed_more : (p : ℕ → Bool) (end : ℕ) → 1 ≤ end → filter p (numbers_below 1 (end + 1)) ≡ filter p (numbers_below 1 end) ++ cond (p end) (end ∷ []) []
passed_more p end some = ap (filter p) (numbers_more 1 end some) ∙ filter-append p (numbers_below 1 end) (end ∷ [])

-- a run more
pub run_more : (runs : List CharacterRun) (run : CharacterRun) → run_numbers (runs ++ run ∷ []) ≡ run_numbers runs ++ numbers_of run
run_more runs run = flat_map-append numbers_of runs (run ∷ []) ∙ ap (λ l. run_numbers runs ++ l) (append-nil (numbers_of run))

-- a run that has begun
pub is_open : (first end : ℕ) → 0 < first → open_run first end ≡ numbers_below first end
is_open first end some = ap (λ b. cond b [] (numbers_below first end)) (ne_eqb first 0 (λ e. omega (arith, some, e)))

module _ (p : ℕ → Bool) (first last : ℕ) (old all : List ℕ) (so_far : old ++ open_run first (last + 1) ≡ all) where
  -- the next number isn't there
  pub lacks : (new : List ℕ) → new ≡ old ++ open_run first (last + 1) → p (last + 1) ≡ false → new ++ open_run 0 (last + 1 + 1) ≡ all ++ cond (p (last + 1)) ((last + 1) ∷ []) []
  lacks new is none = append-nil new ∙ is ∙ so_far ∙ sym (append-nil all) ∙ ap (λ b. all ++ cond b ((last + 1) ∷ []) []) (sym none)

  -- a run begins
  pub begins : first ≡ 0 → p (last + 1) ≡ true → old ++ open_run (last + 1) (last + 1 + 1) ≡ all ++ cond (p (last + 1)) ((last + 1) ∷ []) []
  begins none there =
      let none_below : last + 1 - (last + 1) ≡ 0 = omega arith in
      let one : numbers_below (last + 1) (last + 1 + 1) ≡ (last + 1) ∷ [] = numbers_more (last + 1) (last + 1) (omega arith) ∙ ap (λ n. range_with_len (last + 1) n ++ (last + 1) ∷ []) none_below in
      let before : old ≡ all = sym (append-nil old) ∙ ap (λ n. old ++ open_run n (last + 1)) (sym none) ∙ so_far in
      ap (λ l. old ++ l) (is_open (last + 1) (last + 1 + 1) (omega arith) ∙ one) ∙ ap (λ l. l ++ (last + 1) ∷ []) before ∙ ap (λ b. all ++ cond b ((last + 1) ∷ []) []) (sym there)

  -- a run goes on
  pub goes_on : 0 < first → first ≤ last → p (last + 1) ≡ true → old ++ open_run first (last + 1 + 1) ≡ all ++ cond (p (last + 1)) ((last + 1) ∷ []) []
  goes_on some below there =
      let more : numbers_below first (last + 1 + 1) ≡ numbers_below first (last + 1) ++ (last + 1) ∷ [] = numbers_more first (last + 1) (omega (arith, below)) in
      ap (λ l. old ++ l) (is_open first (last + 1 + 1) some ∙ more ∙ ap (λ l. l ++ (last + 1) ∷ []) (sym (is_open first (last + 1) some))) ∙ sym (append_assoc old (open_run first (last + 1)) ((last + 1) ∷ []))
      ∙ ap (λ l. l ++ (last + 1) ∷ []) so_far ∙ ap (λ b. all ++ cond b ((last + 1) ∷ []) []) (sym there)

-- something is there if a value of it is
pub there_of : {X Y : Type 0} (f : X → Y) (o : Option X) (r : Option Y) (b : Bool) → r ≡ option_map f o → is_some r ≡ b → is_some o ≡ b
there_of f None r b is some = sym (ap is_some is) ∙ some
there_of f (Some x) r b is some = sym (ap is_some is) ∙ some

-- one font more is looked at: it is there, or it isn't
pub font_more : (sign : SignData) (end : ℕ) (old new : List FontCharacters) → AreCharacters sign end old → 1 ≤ end → IsAdded sign end old new → is_some (font_numbered sign end) ≡ true → AreCharacters sign (end + 1) new
font_more sign end old new are some (font, is, number, of) there = (
  ap (map (λ (f : FontCharacters). f.font)) is ∙ map-append (λ (f : FontCharacters). f.font) old (font ∷ []) ∙ ap (λ l. l ++ font.font ∷ []) are.0 ∙ ap (λ n. fonts_below sign end ++ n ∷ []) number
      ∙ ap (λ b. fonts_below sign end ++ cond b (end ∷ []) []) (sym there) ∙ sym (passed_more (λ n. is_some (font_numbered sign n)) end some),
  subst (All (IsOfFont sign)) (sym is) (All-push (IsOfFont sign) old font are.1 of),
)

pub font_lacks : (sign : SignData) (end : ℕ) (fonts : List FontCharacters) → AreCharacters sign end fonts → 1 ≤ end → is_some (font_numbered sign end) ≡ false → AreCharacters sign (end + 1) fonts
font_lacks sign end fonts are some none = (
  are.0 ∙ sym (append-nil (fonts_below sign end)) ∙ ap (λ b. fonts_below sign end ++ cond b (end ∷ []) []) (sym none) ∙ sym (passed_more (λ n. is_some (font_numbered sign n)) end some),
  are.1,
)
