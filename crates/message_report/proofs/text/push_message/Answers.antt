use Rattle.message_report.proofs.NoteLemmas
use Rattle.message_report.proofs.text.push_message.Goals as goal

pub returns : goal.returns
returns c = NoteLemmas.plain_line c.args.message.now c.args.text.now c.push_octets.new.text c.push_more.new.text c.push_octet.new.text c.in-Some.front.now c.in-Some.more c.in-Some.ensures.shown.0 c.in-Some.ensures.shown.1 c.in-Some.ensures.plain c.in_ok-push_octets.ensures c.in_ok-push_more.ensures c.in_ok-push_octet.ensures
