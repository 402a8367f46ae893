use Rattle.std.proofs.Common.{◌≡◌, ◌++◌, string_bytes}
use Rattle.std.specs.Prelude.{codes, decimal}
use Rattle.sign_words.specs.Told.{findings_told, list_told}
use Rattle.sign_words.proofs.ToldLemmas.{joined, then}
use Rattle.sign_words.proofs.members.push_list.Goals as goal

pub returns : goal.returns
unfolding list_told
returns c =
    let t0 = string_bytes c.args.text.now in
    let t1 = string_bytes c.push_text.new.text in
    let t2 = string_bytes c.push_text-2.new.text in
    let t3 = string_bytes c.push_text-3.new.text in
    let t4 = string_bytes c.push_findings.new.text in
    let t5 = string_bytes c.push_text-4.new.text in
    let t6 = string_bytes c.push_text-5.new.text in
    let t7 = string_bytes c.push_text-6.new.text in
    let t8 = string_bytes c.push_count.new.text in
    let x1 = codes ",\n  \"" in
    let x2 = c.args.name.now in
    let x3 = codes "\": " in
    let x4 = findings_told c.args.findings.now in
    let x5 = codes ",\n  \"more_" in
    let x6 = decimal c.args.more in
    let e1 : t1 ≡ t0 ++ x1 = c.in_ok-push_text.ensures in
    let e2 : t2 ≡ t0 ++ (x1 ++ x2) = joined t0 t1 t2 x1 x2 e1 c.in_ok-push_text-2.ensures in
    let e3 : t3 ≡ t0 ++ ((x1 ++ x2) ++ x3) = joined t0 t2 t3 (x1 ++ x2) x3 e2 c.in_ok-push_text-3.ensures in
    let e4 : t4 ≡ t0 ++ (((x1 ++ x2) ++ x3) ++ x4) = joined t0 t3 t4 ((x1 ++ x2) ++ x3) x4 e3 c.in_ok-push_findings.ensures in
    let e5 : t5 ≡ t0 ++ ((((x1 ++ x2) ++ x3) ++ x4) ++ x5) = joined t0 t4 t5 (((x1 ++ x2) ++ x3) ++ x4) x5 e4 c.in_ok-push_text-4.ensures in
    let e6 : t6 ≡ t0 ++ (((((x1 ++ x2) ++ x3) ++ x4) ++ x5) ++ x2) = joined t0 t5 t6 ((((x1 ++ x2) ++ x3) ++ x4) ++ x5) x2 e5 c.in_ok-push_text-5.ensures in
    let e7 : t7 ≡ t0 ++ ((((((x1 ++ x2) ++ x3) ++ x4) ++ x5) ++ x2) ++ x3) = joined t0 t6 t7 (((((x1 ++ x2) ++ x3) ++ x4) ++ x5) ++ x2) x3 e6 c.in_ok-push_text-6.ensures in
    then (t8 ≡ t7 ++ x6) (t8 ≡ t0 ++ (((((((x1 ++ x2) ++ x3) ++ x4) ++ x5) ++ x2) ++ x3) ++ x6)) c.push_count.result c.push_count.ensures (λ e. joined t0 t7 t8 ((((((x1 ++ x2) ++ x3) ++ x4) ++ x5) ++ x2) ++ x3) x6 e7 e)
