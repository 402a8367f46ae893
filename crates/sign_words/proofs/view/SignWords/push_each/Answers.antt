use Rattle.std.proofs.Common.{◌++◌, ◌∷◌, [], ◌∙◌, arith, ap, append_assoc, string_bytes}
use Rattle.sign_words.specs.declared.findings.Finding.{Finding}
use Rattle.sign_words.specs.Told.{head_of}
use Rattle.sign_words.proofs.ToldLemmas.{each_end, each_on}
use Rattle.sign_words.proofs.view.SignWords.push_each.Goals as goal

pub loop-finding-preserved : goal.loop-finding-preserved
loop-finding-preserved c =
    let (told, is, on) = c.loop-finding.invariant in
    let (words, grown) = c.in_ok-push_finding.ensures in
    let v = c.args.self.now.view in
    let i = c.loop-finding.finding-index in
    let front = string_bytes c.args.text.now in
    let piece = head_of v c.args.rank c.finding-item.result ++ words ++ 10 ∷ [] in (
      _,
      grown ∙ ap (λ l. l ++ piece) is ∙ append_assoc front told piece
          ∙ ap (λ (f : Finding). front ++ (told ++ (head_of v c.args.rank f ++ words ++ 10 ∷ []))) c.finding-item.is,
      each_on v c.args.rank c.args.findings.now i told on c.finding-item.result words (omega (arith, c.loop-finding-test.true)),
    )

pub returns : goal.returns
returns c =
    let (told, is, on) = c.loop-finding.invariant in
    (told, each_end c.args.self.now.view c.args.rank c.args.findings.now c.loop-finding.finding-index told on (omega (arith, c.loop-finding-test.false)), is)
