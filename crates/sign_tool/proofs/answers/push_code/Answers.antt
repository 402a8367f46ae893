use Rattle.std.proofs.Common.{◌≡◌, OnOk, subst}
use Rattle.sign_tool.proofs.CodeLemmas
use Rattle.sign_tool.proofs.answers.push_code.Goals as goal

pub returns-clause-text : goal.returns-clause-text
returns-clause-text c =
    let told = CodeLemmas.code_told c.args.message c.args.duration c.args.priority c.args.crc c.args.text.now.begun _ _ _ _ _ _ _ _
    c.in_ok-push_octets.ensures.text c.to_be_bytes.ensures c.in_ok-push_hex.ensures.text c.in_ok-push_hex-2.ensures.text c.to_be_bytes-2.ensures c.in_ok-push_hex-3.ensures.text
    c.to_be_bytes-3.ensures c.in_ok-push_hex-4.ensures.text in
    subst (λ l. OnOk c.push_octets-2.result (c.push_octets-2.new.text.begun ≡ l)) told c.push_octets-2.ensures.text
