use Rattle.std.proofs.Common.{refl}
use lib.Count.{count_leading_zeros}
use Rattle.gates.specs.Octets.{octet_at}
use Rattle.gates.specs.Timetable.{cyclic_octet}
use Rattle.gates.proofs.Example.{figures}
use Rattle.network.specs.Ports.{mask_below}
use Rattle.network.specs.Calls.{tick}
use Rattle.network.specs.Tables.{port_through, ticked_tables, offered_table}
use Rattle.network.proofs.Example.{at_once, after_window, in_time, too_late, within_extension, beyond_extension, fit, near_exact, near_ahead, near_behind, lawful}
use Rattle.network.proofs.figures.network_figures_stand.Goals as goal

pub returns : goal.returns
unfolding count_leading_zeros octet_at cyclic_octet mask_below tick port_through ticked_tables offered_table
returns c = record {
  planning = figures;
  transit_exact = refl;
  transit_ahead = refl;
  transit_behind = refl;
  starts_at_once = at_once;
  starts_later = after_window;
  change_in_time = in_time;
  change_too_late = too_late;
  change_within = within_extension;
  change_beyond = beyond_extension;
  plan_fit = fit;
  exact_near = near_exact;
  ahead_near = near_ahead;
  behind_near = near_behind;
  strict_lawful = lawful;
}
