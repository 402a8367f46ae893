-- Texts in one pool of octets.
use Rattle.std.specs.Prelude.{◌≡◌, ℕ, ◌+◌, ◌-◌, ◌<◌, ◌≤◌, ◌⊎◌, ◌^◌, nat_le, if◌then◌else◌, List, [], ◌∷◌, fold, map, take, drop, length, slice_index_or, Option, None, IfSome}
use Rattle.std.specs.List.{sum_by}
use Rattle.message_store.specs.declared.places.Span.{Span}
use Rattle.message_store.specs.Crc.{octet_step}

-- the texts, and how many octets they may have together (own)
pub record Pool : Type 0 where
  pub texts : List (List ℕ)
  pub room : ℕ

-- octets in memory that is reserved once, and how many it has room for (own)
pub record Reserve : Type 0 where
  pub octets : List ℕ
  pub room : ℕ

-- the octets of all texts (own)
abbrev pub used : Pool → ℕ
used pool = sum_by length pool.texts

-- the text that stands at a place among the octets (own)
abbrev pub text_in : List ℕ → Span → List ℕ
text_in octets span = take span.len (drop span.start octets)

-- the place of no text (own)
abbrev pub no_span : Span
no_span = record { start = 0; len = 0 }

-- the place of the text of an index (own)
abbrev pub span_at : List Span → ℕ → Span
span_at spans i = slice_index_or spans i no_span

-- the places whose beginnings and lengths are kept apart (own)
abbrev pub spans_of : List ℕ → List ℕ → List Span
spans_of [] lens = []
spans_of (start ∷ starts) [] = []
spans_of (start ∷ starts) (len ∷ lens) = record { start = start; len = len } ∷ spans_of starts lens

-- where a text begins once a gap of `len` octets before `end` is closed: what stands after the gap moves up (own)
abbrev pub moved_start : ℕ → ℕ → ℕ → ℕ
moved_start end len start = if nat_le end start then start - len else start

-- a place once a gap of `len` octets before `end` is closed (own)
abbrev pub moved : ℕ → ℕ → Span → Span
moved end len span = record { start = moved_start end len span.start; len = span.len }

-- one place ends before the other begins (own)
abbrev pub AreApart : Span → Span → Type 0
AreApart a b = (a.start + a.len ≤ b.start) ⊎ (b.start + b.len ≤ a.start)

-- the texts stand one after the other, in any order, and leave no gap among this many octets (own)
pub record ArePlaced (spans : List Span) (size : ℕ) : Type 0 where
  pub all : sum_by (λ span. span.len) spans ≡ size
  pub within : (i : ℕ) → i < length spans → (span_at spans i).start + (span_at spans i).len ≤ size
  pub apart : (i j : ℕ) → i < length spans → j < length spans → (i ≡ j → ⊥) → AreApart (span_at spans i) (span_at spans j)

-- the register of the CRC after a text (ISO/IEC 3309)
abbrev pub register_behind : List ℕ → ℕ
register_behind text = fold octet_step 0xFFFF text

-- the registers of the CRC that are kept are those after their texts (own)
abbrev pub AreRegisters : List (Option ℕ) → List (List ℕ) → Type 0
AreRegisters registers texts =
    (i : ℕ) → IfSome (slice_index_or registers i None) (λ register. register ≡ register_behind (slice_index_or texts i []))

-- the places, the octets and the registers of texts belong together (own)
pub record AreTexts (spans : List Span) (held : Reserve) (registers : List (Option ℕ)) : Type 0 where
  pub placed : ArePlaced spans (length held.octets)
  pub within : length held.octets ≤ held.room
  pub narrow : held.room < 2 ^ 32
  pub each : length registers ≡ length spans
  pub behind : AreRegisters registers (map (text_in held.octets) spans)
