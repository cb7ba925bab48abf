use Rattle.std.proofs.Common.{◌≡◌, ℕ, ◌+◌, ◌-◌, ◌*◌, sym, ap, ◌∙◌, subst, arith}
use Rattle.schedule.specs.declared.draft.Draft.{Draft}
use Rattle.schedule.specs.declared.tables.Window.{Window}
use Rattle.schedule.specs.Plan.{Plan, offset_at, end_at, early_at}
use Rattle.schedule.specs.Raising.{MustRise, Behind}
use Rattle.schedule.specs.Drafts.{plan_of}
use Rattle.schedule.proofs.Raising.{rise_behind, rise_before, hopeless_first}
use Rattle.schedule.proofs.draft.hop.Hop.raise_past.Goals.{After-window}
use Rattle.schedule.proofs.draft.hop.Hop.raise_past.Goals as goal

abbrev offset_of : Window → ℕ
offset_of w = w.offset

module _ (c : goal.After-window) where
  abbrev P : Plan
  P = plan_of c.args.self.now.draft.now

  theirs : c.window-theirs.result.offset ≡ offset_at P c.args.other.now.flow c.args.other.now.hop
  theirs = ap offset_of c.window-theirs.ensures.is ∙ ap (λ (d : Draft). offset_at (plan_of d) c.args.other.now.flow c.args.other.now.hop) c.requires.same

  ours : c.window.result.offset ≡ offset_at P c.args.self.now.flow c.args.self.now.hop
  ours = ap offset_of c.window.ensures.is

  behind : Behind P c.args.self.now.flow
  behind g lt = c.args.self.now.draft.now.ordered c.args.self.now.flow g lt c.args.self.now.there.0

pub returns-then-window-theirs : goal.returns-then-window-theirs
returns-then-window-theirs c =
    let d = (goal.at.returns-then-window-theirs c).After-window in
    let x = c.args.self.now in
    subst (λ n. MustRise (P d) x.flow x.hop (n + 1)) (sym (theirs d))
    (rise_behind (P d) x.flow x.hop c.args.other.now.flow c.args.other.now.hop x.there.1 (behind d) c.requires.close (omega (arith, theirs d, ours d)))

pub returns-in_err-before : goal.returns-in_err-before
returns-in_err-before c =
    let d = (goal.at.returns-in_err-before c).After-window in
    let x = c.args.self.now in
    let first = c.in_err-before.ensures in
    rw c.from_residual.ensures (hopeless_first (P d) x.flow x.hop c.args.other.now.flow c.args.other.now.hop x.there.1 (behind d) c.requires.close (omega (arith, theirs d, ours d)) first)

pub returns : goal.returns
returns c =
    let d = (goal.at.returns c).After-window in
    let x = c.args.self.now in
    let same = c.in_ok-before.ensures in
    let p = c.in_ok-before.before.hop in
    let before : c.window-2.result.offset ≡ offset_at (P d) x.flow p = ap offset_of c.window-2.ensures.is ∙ (λ i. offset_at (plan_of (same.0 i)) (same.1 i) p) in
    let ended : c.end.result ≡ end_at (P d) c.args.other.now.flow c.args.other.now.hop = c.end.ensures.is ∙ ap (λ (r : Draft). end_at (plan_of r) c.args.other.now.flow c.args.other.now.hop) c.requires.same in
    let to : c.window-2.result.offset + (c.end.result + 2 * (P d).error - c.early.result) ≡ offset_at (P d) x.flow p + (end_at (P d) c.args.other.now.flow c.args.other.now.hop + 2 * (P d).error - early_at (P d) x.flow x.hop) =
    λ i. before i + (ended i + 2 * (P d).error - c.early.ensures.is i) in
    subst (MustRise (P d) x.flow p) (sym to)
    (rise_before (P d) x.flow x.hop c.args.other.now.flow c.args.other.now.hop x.there.1 (behind d) c.requires.close (omega (arith, theirs d, ours d)) p (sym same.2))
