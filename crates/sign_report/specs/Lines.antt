-- Which lines a sign file may have that stands before a mark.
use Rattle.std.specs.Prelude.{ℕ, Bool, not, ◌&&◌, ◌==◌, nat_le, List, length}
use Rattle.std.specs.List.{list_all, slice_split}
use Rattle.tool_streams.specs.Lines.{is_mark, text_of}

-- whether a line may stand in a sign file: it isn't the mark that ends one, and has at most 8,300 octets before its end (own)
abbrev pub may_stand : List ℕ → Bool
may_stand line = not (is_mark line) && nat_le (length (text_of line)) 8300

-- whether each line of octets may stand in a sign file; a line feed, octet 10, stands between two lines (own)
unfoldable pub has_file_lines : List ℕ → Bool
has_file_lines octets = list_all may_stand (slice_split (λ octet. octet == 10) octets)
