use Rattle.egress.proofs.Credits.{gains, spends, quarter, quarter_of_five, stops}
use Rattle.egress.proofs.shown.shaper_figures_stand.Goals as goal

pub returns : goal.returns
returns c = record { gains = gains; spends = spends; six = quarter; five = quarter_of_five; stops = stops }
