use Rattle.schedule.specs.Drafts.{plan_of}
use Rattle.schedule.proofs.Minimum.{lesser_fits}
use Rattle.schedule.proofs.draft.place.minimum_fits.Goals as goal

pub returns : goal.returns
returns c d release octets deadline route xs ys = lesser_fits (plan_of d) d.stretches release octets deadline route xs ys
