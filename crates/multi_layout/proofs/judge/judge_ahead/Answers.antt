use Rattle.multi_layout.proofs.Common.{None, refl, true}
use Rattle.multi_tag.proofs.ClosedTagLemmas.{no_closed_name}
use Rattle.multi_layout.proofs.BracketedLemmas.{judges_ahead}
use Rattle.multi_layout.proofs.judge.judge_ahead.Goals as goal

pub returns-in_err-name-clause-judged : goal.returns-in_err-name-clause-judged
returns-in_err-name-clause-judged g c =
    rw c.from_residual.ensures (judges_ahead true c.args.sign.now _ _ c.args.at _ c.requires.room c.requires.stands c.ahead-octets.ensures.octets c.ahead-octets.follows.holds-at-none c.args.pass.now None None c.args.pass.now _ tt (no_closed_name _ c.in_err-name.ensures.none) refl)

pub returns-in-NewPage-clause-judged : goal.returns-in-NewPage-clause-judged
returns-in-NewPage-clause-judged g c = judges_ahead _ _ _ _ _ _ c.requires.room c.requires.stands c.ahead-octets.ensures.octets c.ahead-octets.follows.holds-at-none _ _ _ _ _ c.read_named-read.ensures.some c.read_named-read.ensures.none c.judge_read.ensures.judged

pub returns-in-NewLine-clause-judged : goal.returns-in-NewLine-clause-judged
returns-in-NewLine-clause-judged g c = judges_ahead _ _ _ _ _ _ c.requires.room c.requires.stands c.ahead-octets.ensures.octets c.ahead-octets.follows.holds-at-none _ _ _ _ _ c.read_named-read-in-NewLine.ensures.some c.read_named-read-in-NewLine.ensures.none c.judge_read-in-NewLine.ensures.judged

pub returns-in-LineJust-clause-judged : goal.returns-in-LineJust-clause-judged
returns-in-LineJust-clause-judged g c = judges_ahead _ _ _ _ _ _ c.requires.room c.requires.stands c.ahead-octets.ensures.octets c.ahead-octets.follows.holds-at-none _ _ _ _ _ c.read_named-read-in-LineJust.ensures.some c.read_named-read-in-LineJust.ensures.none c.judge_read-in-LineJust.ensures.judged

pub returns-in-PageJust-clause-judged : goal.returns-in-PageJust-clause-judged
returns-in-PageJust-clause-judged g c = judges_ahead _ _ _ _ _ _ c.requires.room c.requires.stands c.ahead-octets.ensures.octets c.ahead-octets.follows.holds-at-none _ _ _ _ _ c.read_named-read-in-PageJust.ensures.some c.read_named-read-in-PageJust.ensures.none c.judge_read-in-PageJust.ensures.judged

pub returns-in-Font-clause-judged : goal.returns-in-Font-clause-judged
returns-in-Font-clause-judged g c = judges_ahead _ _ _ _ _ _ c.requires.room c.requires.stands c.ahead-octets.ensures.octets c.ahead-octets.follows.holds-at-none _ _ _ _ _ c.read_named-read-in-Font.ensures.some c.read_named-read-in-Font.ensures.none c.judge_read-in-Font.ensures.judged

pub returns-in-CharSpacing-clause-judged : goal.returns-in-CharSpacing-clause-judged
returns-in-CharSpacing-clause-judged g c = judges_ahead _ _ _ _ _ _ c.requires.room c.requires.stands c.ahead-octets.ensures.octets c.ahead-octets.follows.holds-at-none _ _ _ _ _ c.read_named-read-in-CharSpacing.ensures.some c.read_named-read-in-CharSpacing.ensures.none c.judge_read-in-CharSpacing.ensures.judged

pub returns-in-CharSpacingEnd-clause-judged : goal.returns-in-CharSpacingEnd-clause-judged
returns-in-CharSpacingEnd-clause-judged g c = judges_ahead _ _ _ _ _ _ c.requires.room c.requires.stands c.ahead-octets.ensures.octets c.ahead-octets.follows.holds-at-none _ _ _ _ _ c.read_named-read-in-CharSpacingEnd.ensures.some c.read_named-read-in-CharSpacingEnd.ensures.none c.judge_read-in-CharSpacingEnd.ensures.judged

pub returns-in-PageTime-clause-judged : goal.returns-in-PageTime-clause-judged
returns-in-PageTime-clause-judged g c = judges_ahead _ _ _ _ _ _ c.requires.room c.requires.stands c.ahead-octets.ensures.octets c.ahead-octets.follows.holds-at-none _ _ _ _ _ c.read_named-read-in-PageTime.ensures.some c.read_named-read-in-PageTime.ensures.none c.judge_read-in-PageTime.ensures.judged

pub returns-in-Flash-clause-judged : goal.returns-in-Flash-clause-judged
returns-in-Flash-clause-judged g c = judges_ahead _ _ _ _ _ _ c.requires.room c.requires.stands c.ahead-octets.ensures.octets c.ahead-octets.follows.holds-at-none _ _ _ _ _ c.read_named-read-in-Flash.ensures.some c.read_named-read-in-Flash.ensures.none c.judge_read-in-Flash.ensures.judged

pub returns-in-FlashEnd-clause-judged : goal.returns-in-FlashEnd-clause-judged
returns-in-FlashEnd-clause-judged g c = judges_ahead _ _ _ _ _ _ c.requires.room c.requires.stands c.ahead-octets.ensures.octets c.ahead-octets.follows.holds-at-none _ _ _ _ _ c.read_named-read-in-FlashEnd.ensures.some c.read_named-read-in-FlashEnd.ensures.none c.judge_read-in-FlashEnd.ensures.judged

pub returns-in-Fore-clause-judged : goal.returns-in-Fore-clause-judged
returns-in-Fore-clause-judged g c = judges_ahead _ _ _ _ _ _ c.requires.room c.requires.stands c.ahead-octets.ensures.octets c.ahead-octets.follows.holds-at-none _ _ _ _ _ c.read_named-read-in-Fore.ensures.some c.read_named-read-in-Fore.ensures.none c.judge_read-in-Fore.ensures.judged

pub returns-in-Back-clause-judged : goal.returns-in-Back-clause-judged
returns-in-Back-clause-judged g c = judges_ahead _ _ _ _ _ _ c.requires.room c.requires.stands c.ahead-octets.ensures.octets c.ahead-octets.follows.holds-at-none _ _ _ _ _ c.read_named-read-in-Back.ensures.some c.read_named-read-in-Back.ensures.none c.judge_read-in-Back.ensures.judged

pub returns-in-Rect-clause-judged : goal.returns-in-Rect-clause-judged
returns-in-Rect-clause-judged g c = judges_ahead _ _ _ _ _ _ c.requires.room c.requires.stands c.ahead-octets.ensures.octets c.ahead-octets.follows.holds-at-none _ _ _ _ _ c.read_named-read-in-Rect.ensures.some c.read_named-read-in-Rect.ensures.none c.judge_read-in-Rect.ensures.judged

pub returns-in-HexChar-clause-judged : goal.returns-in-HexChar-clause-judged
returns-in-HexChar-clause-judged g c = judges_ahead _ _ _ _ _ _ c.requires.room c.requires.stands c.ahead-octets.ensures.octets c.ahead-octets.follows.holds-at-none _ _ _ _ _ c.read_named-read-in-HexChar.ensures.some c.read_named-read-in-HexChar.ensures.none c.judge_read-in-HexChar.ensures.judged
