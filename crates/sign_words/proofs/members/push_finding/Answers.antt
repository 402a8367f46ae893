use Rattle.std.proofs.Common.{◌≡◌, ◌++◌, string_bytes}
use Rattle.sign_words.specs.Told.{finding_told, key_told, position_told, table_told}
use Rattle.sign_words.proofs.ToldLemmas.{joined, then}
use Rattle.sign_words.proofs.members.push_finding.Goals as goal

pub returns : goal.returns
unfolding finding_told
returns c =
    let t0 = string_bytes c.args.text.now in
    let t1 = string_bytes c.push_position.new.text in
    let t2 = string_bytes c.push_table.new.text in
    let t3 = string_bytes c.push_key.new.text in
    let x1 = position_told c.args.finding.now in
    let x2 = table_told c.args.finding.now in
    let x3 = key_told c.args.finding.now in
    let e1 : t1 ≡ t0 ++ x1 = c.in_ok-push_position.ensures in
    let e2 : t2 ≡ t0 ++ (x1 ++ x2) = joined t0 t1 t2 x1 x2 e1 c.in_ok-push_table.ensures in
    then (t3 ≡ t2 ++ x3) (t3 ≡ t0 ++ ((x1 ++ x2) ++ x3)) c.push_key.result c.push_key.ensures (λ e. joined t0 t2 t3 (x1 ++ x2) x3 e2 e)
