-- A file that has begun.
use Rattle.std.specs.Prelude.{◌≡◌, ℕ, List, length}
use Rattle.gif.specs.Gif.{Picture, IsBegun}

-- octets are a file of this size that has begun (own)
abbrev pub IsFilm : ℕ → ℕ → List ℕ → Type 0
IsFilm width height octets =
    (palette : List ℕ) × (pictures : List Picture) × (length palette ≡ 48) × IsBegun width height palette pictures octets
