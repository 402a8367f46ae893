use Rattle.std.proofs.Common.{◌≡◌, ◌∙◌, length, rules, arith}
use Rattle.std.proofs.lemmas.List.{length-map}
use Rattle.sign_font.specs.Sign.{font_of}
use Rattle.sign_file.specs.SignFile.{file_of}
use Rattle.font_bdf.proofs.TableLemmas.{taken}
use Rattle.font_bdf.proofs.write.take_table.Goals as goal

pub returns-in-Ok-take_sign-clause-taken : goal.returns-in-Ok-take_sign-clause-taken
returns-in-Ok-take_sign-clause-taken c =
    let file = file_of c.in-Ok-read_sign_file.file in
    let none : length file.permanents ≡ 0 = length-map c.in-Ok-read_sign_file.file.permanents.items _ ∙ grind (arith, c.is_empty.ensures, c.if-not-is_empty.false) in
    taken c.args.setting.now c.args.table.now file (font_of c.args.font.now) (search rules) (search rules) (search rules) none c.in-Ok-take_sign.ensures.sound
