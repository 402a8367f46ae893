-- What is kept of the items that were read, where lines are filled (own).
use Rattle.std.specs.Prelude.{◌≡◌, ◌≤◌, Bool, true, false, List, Some}
use Rattle.std.specs.List.{after_last}
use Rattle.std.specs.Option.{IfSome}
use Rattle.multi_tag.specs.declared.tag.Tag.{Tag}
use Rattle.multi_tag.specs.declared.tag.Tag.TheVariants.{NewPage, NewLine, Rect}
use Rattle.sign_font.specs.declared.parts.LineFill.TheVariants.{Words}
use Rattle.sign_font.specs.Sign.{SignData}
use Rattle.multi_meaning.specs.Address.{in_group, is_break, standing}
use Rattle.multi_meaning.specs.Filling.{filled}
use Rattle.multi_meaning.specs.internal.FillOpen.{AllOpenFit}
use Rattle.multi_meaning.specs.Laid.{laid_items}
use Rattle.multi_meaning.specs.Meaning.{Meaning}
use Rattle.multi_meaning.specs.internal.Present.{present_area}
use Rattle.multi_judge.specs.declared.line.Line.{Line}
use Rattle.multi_judge.specs.declared.pass.Pass.{Pass}
use Rattle.multi_judge.specs.internal.Run.{line_in_force}
use Rattle.multi_judge.specs.internal.FillSums.{Order, order_of, order_sum, split_sum}
use Rattle.multi_judge.specs.internal.State.{AreaFits, IsLimited, IsReady, IsStateOf}

-- it is what is kept of these items: the state of the items as they are laid out, the parts of the present line around its last
-- space, and the order of all characters of the present group since the last `nl`; the limits are known, and the open lines and the
-- area fit (own)
pub record IsFilledOf (sign : SignData) (items : List Meaning) (kept : Pass) : Type 0 where
  pub state_is : IsStateOf sign (laid_items Words sign items items) kept.state
  pub split_is :
      kept.split
      ≡ split_sum
      (after_last is_break
      (filled (Some (standing sign items).rectangle.width) (in_group kept.state.area.present (present_area sign items))))
  pub order_is : order_of kept.order ≡ order_sum (after_last is_break (in_group kept.state.area.present (present_area sign items)))
  pub limited : IsLimited kept.state
  pub area_fits : AreaFits sign (laid_items Words sign items items)
  pub fits : AllOpenFit (Some (standing sign items).rectangle.width) (present_area sign items)

-- lines are filled, and this is what is kept of these items (own)
pub record IsFilledFor (sign : SignData) (kept : Pass) (items : List Meaning) : Type 0 where
  pub words : sign.line_fill ≡ Words
  pub of : IsFilledOf sign items kept

-- the justifications of a line's characters are among those that the order is judged by (own)
abbrev pub IsOrderedBy : Order → Line → Type 0
IsOrderedBy order line = (line.present ≤ order.largest) × (line.has_parts ≡ true → order.has_parts ≡ true)

-- the times are within their bound, and what clashes with the present line clashes with those that the order is judged by (own)
pub record IsFilledReady (kept : Pass) : Type 0 where
  pub state : IsReady kept.state
  pub line : IsOrderedBy (order_of kept.order) (line_in_force kept.state)
  pub behind : IfSome kept.split (λ s. IsOrderedBy (order_of kept.order) s.behind)

-- a line begins after what this tag says (NTCIP 1203 v03, MULTI tags 'nl', 'np' and 'tr')
abbrev pub begins_line : Tag → Bool
begins_line NewPage = true
begins_line (NewLine gap) = true
begins_line (Rect x y w h) = true
begins_line tag = false
