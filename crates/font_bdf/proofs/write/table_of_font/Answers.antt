use Rattle.std.proofs.Common.{refl}
use Rattle.sign_font.specs.Sign.{font_of}
use Rattle.font_bdf.proofs.TableLemmas.{alone}
use Rattle.font_bdf.proofs.write.table_of_font.Goals as goal

pub returns-in-Ok : goal.returns-in-Ok
returns-in-Ok c = alone _ (font_of c.args.font.now) c.in-Ok.table.items c.in-Ok.ensures.table refl
