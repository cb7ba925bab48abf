use Rattle.std.proofs.Common.{◌≡◌, ℕ, ◌+◌, false, ltb, sym, ap, ◌∙◌, inl, inr, arith}
use Rattle.std.proofs.lemmas.Bool.{cases_eq, and_left, and_right}
use Rattle.schedule.specs.Plan.{Plan}
use Rattle.schedule.specs.Checks.{checked_plan}
use Rattle.gates.specs.Octets.{opens}
use Rattle.gates.specs.Lookup.{octets}
use Rattle.gates.specs.Timetable.{open_for}
use Rattle.network.specs.Ports.{Port, time_of}
use Rattle.network.specs.Steps.{port_of, ready}
use Rattle.network.proofs.Masks.{each_not}
use Rattle.network.proofs.port.Port.is_available.Goals as goal

-- a class whose gate is shut at once is not available
ready_shut : (P : Plan) (octets : ℕ → ℕ) (l : ℕ) {S : Type 0} (x : Port S) (c : ℕ) → opens (octets l) c ≡ false → false ≡ ready P octets l x c
unfolding ready
ready_shut P octets l x c e =
    let w = time_of P x c in
    elim (cases_eq w 0) [
      | inl z ↦ sym (and_left (ltb 0 w) (open_for octets l c w) (ap (ltb 0) z))
      | inr z ↦ sym (and_right (ltb 0 w) (open_for octets l c w) (each_not w (λ i. opens (octets (l + i)) c) 0 (omega (arith, z)) (ap (λ n. opens (octets n) c) (let k : l + 0 ≡ l = omega arith in k) ∙ e)))
    ]

pub returns-then-not-is_open : goal.returns-then-not-is_open
returns-then-not-is_open g c =
    let m = c.args.m.now in
    ready_shut (checked_plan m.plan.now) (octets m.gates.now) m.reading (port_of c.args.self.now) c.args.class (ap (λ o. opens o c.args.class) (sym m.open) ∙ sym c.is_open.ensures ∙ c.if-not-is_open.true)
