use Rattle.std.proofs.Common.{◌≡◌, pos, negsuc, ◌+ℤ◌, ◌-ℤ◌, sym, ap, ◌∙◌, arith, w32, to_z, of_z}
use Rattle.std.proofs.lemmas.Int.{ints, to_z-of_z}
use Rattle.std.proofs.lemmas.Bool.{cond-true}
use Rattle.egress.specs.Credit.{stopped}
use Rattle.egress.proofs.shaped.Shaped.next_credit.Goals as goal

pub returns-then-wire : goal.returns-then-wire
returns-then-wire c =
    let z = to_z w32 (of_z w32 (to_z w32 (of_z w32 (to_z w32 (of_z w32 c.args.self.now.credit) +ℤ to_z w32 (of_z w32 c.from-slope.result))) -ℤ pos 1000)) in
    let e : z ≡ c.args.self.now.credit +ℤ pos c.args.self.now.slope +ℤ negsuc 999 = omega (arith, ints) in
    to_z-of_z w32 c.stop.result (record { sfits = c.stop.type_inv }) ∙ c.stop.ensures ∙ ap stopped e ∙ sym (cond-true c.args.wire _ _ c.if-wire.true)
