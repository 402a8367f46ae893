-- What computes the sign file of a literal.
use Rattle.std.specs.Prelude.{⊤}
use Rattle.std.specs.Str.{chars, is_utf8}
use Rattle.hex.proofs.OnLiterals.{hex_on_literals}
use Rattle.toml.proofs.OnLiterals.{toml_on_literals}
use Rattle.sign_file.specs.Keys.{each_of}
use Rattle.sign_file.specs.Names.{names, names_of_items, names_of_line, names_of_lines, names_of_members, names_of_value}
use Rattle.sign_file.specs.Nesting.{outside, most_open, most_dots, is_shallow}
use Rattle.sign_file.specs.SignFile.{file_of_octets, file_of_table, limits_of_table, permanent_of_table}
use Rattle.sign_file.specs.SignKeys.{cell_of_table, defaults_of_table, font_of_table, sign_of_table}

unfoldable pub sign_file_on_literals : ⊤
unfolding chars is_utf8 toml_on_literals hex_on_literals cell_of_table defaults_of_table each_of file_of_octets file_of_table font_of_table is_shallow limits_of_table most_dots most_open names names_of_items names_of_line names_of_lines names_of_members names_of_value outside permanent_of_table sign_of_table
sign_file_on_literals = tt
