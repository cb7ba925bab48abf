use Rattle.std.proofs.Common.{arith}
use Rattle.network.proofs.Masks.{mask_fits, mask_step}
use Rattle.network.proofs.port.lines.classes.Goals as goal

pub loop-class-preserved : goal.loop-class-preserved
loop-class-preserved g c =
    let k = c.loop-class.class in let b = c.admits.result in (
      omega (arith, c.with_class-mask.ensures, mask_fits k c.loop-class.mask b c.loop-class.invariant.0),
      λ q h. mask_step k q c.loop-class.mask b _ (c.loop-class.invariant.1 q h) (h k b (omega arith) c.admits.ensures) c.with_class-mask.ensures,
    )
