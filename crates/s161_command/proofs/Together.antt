use Rattle.std.proofs.Common.{◌≡◌, Bool, true, false, not, ◌&&◌, List, refl}
use Rattle.clap.specs.Words.{Row}
use Rattle.s161_command.specs.Drives.{changes_without_seed, delayed_without_turns, delays_and_seeds, file_and_order, go_together, half_priorities, has_order, lacks_events, lacks_runs, order_in_threads, pace_without_order, shows_twice, traps_unshown, turns_without_delays, two_orders}
use Rattle.s161_command.specs.declared.drive.OrderUse.TheVariants.{Needed}

-- What options that go together say of a command that needs an order.

needed : (a b c d e f g k : Bool) → (a && not (not b) && c && d && e && f && g && k) ≡ true → b ≡ true
needed a true c d e f g k h = refl
needed true false c d e f g k h = h
needed false false c d e f g k h = h

-- it has one
pub ordered : (rows : List Row) → go_together Needed rows ≡ true → has_order rows ≡ true
ordered rows h =
    needed
    (not (two_orders rows) && not (delays_and_seeds rows) && not (lacks_runs Needed rows)
    && not (turns_without_delays Needed rows) && not (half_priorities rows)
    && not (changes_without_seed Needed rows) && not (delayed_without_turns rows))
    (has_order rows) (not (pace_without_order Needed rows)) (not (order_in_threads rows))
    (not (shows_twice rows)) (not (traps_unshown rows)) (not (file_and_order Needed rows)) (not (lacks_events Needed rows)) h
