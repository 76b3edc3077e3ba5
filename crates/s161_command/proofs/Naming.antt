use Rattle.std.proofs.Common.{◌≡◌, List, ℕ, Some, subst, sym}
use Rattle.clap.specs.Words.{Row}
use Rattle.s161_command.specs.declared.settings.Settings.{Settings}
use Rattle.s161_command.specs.declared.task.Task.{Task}
use Rattle.s161_command.specs.Commands.{IsTask, order_use}
use Rattle.s161_command.specs.helpers.Settings.{HasSettingsIf}

-- What is said of a command by its name.

pub settings_as : (rows : List Row) (settings : Settings) {name word : List ℕ} → name ≡ word
    → HasSettingsIf (order_use name) rows settings → HasSettingsIf (order_use word) rows settings
settings_as rows settings is = subst (λ text. HasSettingsIf (order_use text) rows settings) is

pub task_as : (rows : List Row) (task : Task) {name word : List ℕ} → name ≡ word
    → IsTask (Some (word, rows)) task → IsTask (Some (name, rows)) task
task_as rows task is = subst (λ text. IsTask (Some (text, rows)) task) (sym is)
