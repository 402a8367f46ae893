use Rattle.std.proofs.Common.{◌≡◌, ℕ, List, subst}
use Rattle.multi_meaning.specs.Verdict.{Accepted, IsCycle, IsVerdict}
use Rattle.sign_font.specs.Sign.{SignData}
use Rattle.message_film.proofs.FlashLemmas
use Rattle.message_film.proofs.period.playing_time.Goals as goal

judged : (sign judge : SignData) (octets text : List ℕ) (pages : ℕ) → judge ≡ sign → text ≡ octets → IsVerdict judge text (Accepted pages) → IsVerdict sign octets (Accepted pages)
judged sign judge octets text pages same_sign same is =
    subst (λ l. IsVerdict sign l (Accepted pages)) same (subst (λ (s : SignData). IsVerdict s text (Accepted pages)) same_sign is)

cycles : (sign judge : SignData) (octets text : List ℕ) (whole : ℕ) → judge ≡ sign → text ≡ octets → IsCycle judge text whole → IsCycle sign octets whole
cycles sign judge octets text whole same_sign same is = subst (λ l. IsCycle sign l whole) same (subst (λ (s : SignData). IsCycle s text whole) same_sign is)

pub returns-then-pages-eq1 : goal.returns-then-pages-eq1
returns-then-pages-eq1 c =
    let sign = c.args.sign.now in
    let octets = c.args.octets.now in
    let verdict = judged sign c.args.checked.now.sign octets c.args.checked.now.source.octets c.pages.result c.requires.sign c.requires.octets c.pages.ensures in
    let (plays, period, some) = FlashLemmas.one_page sign octets c.pages.result c.flash_period.result verdict c.if-pages-eq1.true c.flash_period.ensures in
    record { plays = plays; period = period; some = some }

pub returns-then-cycle-eq0 : goal.returns-then-cycle-eq0
returns-then-cycle-eq0 c =
    let sign = c.args.sign.now in
    let octets = c.args.octets.now in
    let whole = cycles sign c.args.checked.now.sign octets c.args.checked.now.source.octets c.cycle-cycle.result c.requires.sign c.requires.octets c.cycle-cycle.ensures in
    let (plays, period, some) = FlashLemmas.no_cycle sign octets c.cycle-cycle.result c.flash_period-then-cycle-eq0.result whole c.if-cycle-eq0.true c.flash_period-then-cycle-eq0.ensures in
    record { plays = plays; period = period; some = some }

pub returns : goal.returns
returns c =
    let sign = c.args.sign.now in
    let octets = c.args.octets.now in
    let verdict = judged sign c.args.checked.now.sign octets c.args.checked.now.source.octets c.pages.result c.requires.sign c.requires.octets c.pages.ensures in
    let whole = cycles sign c.args.checked.now.sign octets c.args.checked.now.source.octets c.cycle-cycle.result c.requires.sign c.requires.octets c.cycle-cycle.ensures in
    let (plays, period, some) = FlashLemmas.one_cycle sign octets c.pages.result c.cycle-cycle.result verdict c.if-pages-eq1.false whole c.if-cycle-eq0.false in
    record { plays = plays; period = period; some = some }
