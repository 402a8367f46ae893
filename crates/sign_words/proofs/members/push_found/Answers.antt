use Rattle.std.proofs.Common.{◌≡◌, ◌++◌, string_bytes}
use Rattle.std.specs.Prelude.{codes}
use Rattle.sign_words.specs.Told.{found_told, list_told, truth_of}
use Rattle.sign_words.proofs.ToldLemmas.{joined, then}
use Rattle.sign_words.proofs.members.push_found.Goals as goal

pub returns : goal.returns
unfolding found_told
returns c =
    let t0 = string_bytes c.args.text.now in
    let t1 = string_bytes c.push_text.new.text in
    let t2 = string_bytes c.push_truth.new.text in
    let t3 = string_bytes c.push_list.new.text in
    let t4 = string_bytes c.push_list-2.new.text in
    let found = c.args.found.now in
    let x1 = codes "{\n  \"taken\": " in
    let x2 = truth_of c.args.is_taken in
    let x3 = list_told (codes "faults") found.faults.items found.more_faults in
    let x4 = list_told (codes "warnings") found.warnings.items found.more_warnings in
    let e1 : t1 ≡ t0 ++ x1 = c.in_ok-push_text.ensures in
    let e2 : t2 ≡ t0 ++ (x1 ++ x2) = joined t0 t1 t2 x1 x2 e1 c.in_ok-push_truth.ensures in
    let e3 : t3 ≡ t0 ++ ((x1 ++ x2) ++ x3) = joined t0 t2 t3 (x1 ++ x2) x3 e2 (rw c.as_slice-faults.ensures.value at c.in_ok-push_list.ensures) in
    then (t4 ≡ t3 ++ x4) (t4 ≡ t0 ++ (((x1 ++ x2) ++ x3) ++ x4)) c.push_list-2.result (rw c.as_slice-warnings.ensures.value at c.push_list-2.ensures) (λ e. joined t0 t3 t4 ((x1 ++ x2) ++ x3) x4 e3 e)
