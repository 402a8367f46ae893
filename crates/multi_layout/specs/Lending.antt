-- What a call that lends the plane leaves behind once its view is gone.
use Rattle.std.specs.Prelude.{◌≡◌, ⊤, [], Option, None, Some}
use Rattle.std.specs.Borrow.{follows_so, MutBor, Fml}
use mathlib.Core.Option.{none}
use mir.Syntax.{named}
use Rattle.multi_layout.specs.Pages.{PagesState, TurnsPage}
use Rattle.multi_layout.specs.declared.pages.PageView.{PageView}
use Rattle.multi_layout.specs.contracts.pages.Pages.{the_row}

-- after the last page nothing has changed, and else the view showed the plane of the page that was next (own)
abbrev pub Turned : PagesState → PagesState → Option PageView → Type 0
Turned old new None = new ≡ old
Turned old new (Some view) = TurnsPage old new × (view.plane.now ≡ new.plane)

-- the pages, once the view that they gave is gone (own)
abbrev pub TurnedAfter : MutBor PagesState → Option PageView → Fml
TurnedAfter pages view =
    let row = the_row (record { mir = named 0; lft = [] }) in
    follows_so row row pages.ghost_name none (λ _ _. ⊤) (λ last. Turned pages.now last view)
