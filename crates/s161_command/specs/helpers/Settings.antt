use Rattle.std.specs.Prelude.{◌≡◌, ◌≤◌, true, List, length, Option, None, Some, codes}
use Rattle.clap.specs.Words.{Row, first_of}
use Rattle.m161_order.specs.Order.{order_fault}
use Rattle.s161_command.specs.declared.drive.OrderUse.{OrderUse}
use Rattle.s161_command.specs.declared.settings.Settings.{Settings}
use Rattle.s161_command.specs.Classes.{IsClassIf}
use Rattle.s161_command.specs.Drives.{IsGap, IsOrder, gap_by_default, go_together}
use Rattle.s161_command.specs.Links.{IsLinkIf}
use Rattle.s161_command.specs.Repeated.{texts_of}

-- What the options say that may be wrong though clap takes them.

-- the options of a command that takes an order in this way go together, and say this
pub record HasSettings (orders : OrderUse) (rows : List Row) (settings : Settings) : Type 0 where
  pub together : go_together orders rows ≡ true
  pub order : IsOrder orders rows settings.order
  pub limits : order_fault settings.order ≡ None
  pub delays : IsClassIf rows settings.delays
  pub few : length (texts_of (codes "never") rows) ≤ 64
  pub gap : IsGap (gap_by_default orders) (first_of (codes "gap") rows) settings.gap
  pub link : IsLinkIf (first_of (codes "link") rows) settings.link

-- those of a command that takes no order
pub record HasPlainSettings (rows : List Row) (settings : Settings) : Type 0 where
  pub few : length (texts_of (codes "never") rows) ≤ 64
  pub link : IsLinkIf (first_of (codes "link") rows) settings.link

-- the same of a command that takes an order in this way, or none
abbrev pub HasSettingsIf : Option OrderUse → List Row → Settings → Type 0
HasSettingsIf None rows settings = HasPlainSettings rows settings
HasSettingsIf (Some orders) rows settings = HasSettings orders rows settings
