use Rattle.std.proofs.Common.{◌≡◌, ◌++◌, ◌∙◌, ap, arith, refl, string_bytes}
use Rattle.std.specs.Prelude.{codes, decimal}
use Rattle.sign_words.proofs.ToldLemmas.{joined, then}
use Rattle.sign_words.proofs.facts.push_setup.Goals as goal

pub returns : goal.returns
returns c =
    let t0 = string_bytes c.args.text.now in
    let t1 = string_bytes c.push_text-2.new.text in
    let t2 = string_bytes c.push_count.new.text in
    let t3 = string_bytes c.push_text-3.new.text in
    let x1 = codes ",\n  \"sign\": {\n    \"width\": " in
    let x2 = decimal c.in-Some.field-0.now.sign.width in
    let x3 = c.deref.result.now in
    let e1 : t1 ≡ t0 ++ x1 = c.in_ok-push_text.ensures in
    let w : t2 ≡ t1 ++ x2 = c.in_ok-push_count.ensures ∙ ap (λ n. t1 ++ decimal n) (let is : c.from.result ≡ c.in-Some.field-0.now.sign.width = grind (arith, c.from.ensures, c.width.ensures.width, c.in-Some.sign-is) in is) in
    let e2 : t2 ≡ t0 ++ (x1 ++ x2) = joined t0 t1 t2 x1 x2 e1 w in
    then (t3 ≡ t2 ++ x3) _ c.push_text-3.result c.push_text-3.ensures (λ e. ((x1 ++ x2) ++ x3, rw c.in-Some.is (x3, refl), joined t0 t2 t3 (x1 ++ x2) x3 e2 e))
