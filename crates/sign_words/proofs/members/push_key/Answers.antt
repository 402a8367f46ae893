use Rattle.std.proofs.Common.{◌≡◌, ◌++◌, string_bytes}
use Rattle.std.specs.Prelude.{codes}
use Rattle.sign_words.specs.Names.{code_word}
use Rattle.sign_words.specs.Told.{key_told, quoted}
use Rattle.sign_words.proofs.ToldLemmas.{joined, then}
use Rattle.sign_words.proofs.members.push_key.Goals as goal

pub returns : goal.returns
unfolding key_told
returns c =
    let t0 = string_bytes c.args.text.now in
    let t1 = string_bytes c.push_text.new.text in
    let t2 = string_bytes c.push_string.new.text in
    let t3 = string_bytes c.push_text-2.new.text in
    let t4 = string_bytes c.push_code.new.text in
    let t5 = string_bytes c.push_text-3.new.text in
    let t6 = string_bytes c.push_string-2.new.text in
    let t7 = string_bytes c.push_text-4.new.text in
    let x1 = codes ",\n      \"key\": " in
    let x2 = quoted (string_bytes c.args.finding.now.key) in
    let x3 = codes ",\n      \"code\": " in
    let x4 = quoted (code_word c.args.finding.now.code) in
    let x5 = codes ",\n      \"sentence\": " in
    let x6 = quoted (string_bytes c.args.finding.now.sentence) in
    let x7 = codes "\n    }" in
    let e1 : t1 ≡ t0 ++ x1 = c.in_ok-push_text.ensures in
    let e2 : t2 ≡ t0 ++ (x1 ++ x2) = joined t0 t1 t2 x1 x2 e1 c.in_ok-push_string.ensures in
    let e3 : t3 ≡ t0 ++ ((x1 ++ x2) ++ x3) = joined t0 t2 t3 (x1 ++ x2) x3 e2 c.in_ok-push_text-2.ensures in
    let e4 : t4 ≡ t0 ++ (((x1 ++ x2) ++ x3) ++ x4) = joined t0 t3 t4 ((x1 ++ x2) ++ x3) x4 e3 c.in_ok-push_code.ensures in
    let e5 : t5 ≡ t0 ++ ((((x1 ++ x2) ++ x3) ++ x4) ++ x5) = joined t0 t4 t5 (((x1 ++ x2) ++ x3) ++ x4) x5 e4 c.in_ok-push_text-3.ensures in
    let e6 : t6 ≡ t0 ++ (((((x1 ++ x2) ++ x3) ++ x4) ++ x5) ++ x6) = joined t0 t5 t6 ((((x1 ++ x2) ++ x3) ++ x4) ++ x5) x6 e5 c.in_ok-push_string-2.ensures in
    then (t7 ≡ t6 ++ x7) (t7 ≡ t0 ++ ((((((x1 ++ x2) ++ x3) ++ x4) ++ x5) ++ x6) ++ x7)) c.push_text-4.result c.push_text-4.ensures (λ e. joined t0 t6 t7 (((((x1 ++ x2) ++ x3) ++ x4) ++ x5) ++ x6) x7 e6 e)
