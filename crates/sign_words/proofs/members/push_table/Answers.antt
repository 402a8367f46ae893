use Rattle.std.proofs.Common.{◌≡◌, ◌++◌, string_bytes}
use Rattle.std.specs.Prelude.{codes}
use Rattle.sign_words.specs.Names.{place_text}
use Rattle.sign_words.specs.Told.{quoted, table_told}
use Rattle.sign_words.proofs.ToldLemmas.{joined, then}
use Rattle.sign_words.proofs.members.push_table.Goals as goal

pub returns : goal.returns
unfolding table_told
returns c =
    let t0 = string_bytes c.args.text.now in
    let t1 = string_bytes c.push_text.new.text in
    let t2 = string_bytes c.push_place_text.new.text in
    let x1 = codes ",\n      \"table\": " in
    let x2 = quoted (place_text c.args.finding.now.place) in
    let e1 : t1 ≡ t0 ++ x1 = c.in_ok-push_text.ensures in
    then (t2 ≡ t1 ++ x2) (t2 ≡ t0 ++ (x1 ++ x2)) c.push_place_text.result c.push_place_text.ensures (λ e. joined t0 t1 t2 x1 x2 e1 e)
