use Rattle.std.proofs.Common.{map, sym, arith}
use Rattle.std.proofs.lemmas.List.{length-map}
use Rattle.egress.specs.Lines.{frames}
use Rattle.egress.specs.Waiting.{rest}
use Rattle.network.proofs.Places.{place_none}
use Rattle.network.proofs.port.lines.drop_first.Goals as goal

pub returns-else-class-lt7 : goal.returns-else-class-lt7
returns-else-class-lt7 c = sym (place_none c.args.class rest (map frames c.args.lines.now) (omega (arith, length-map c.args.lines.now frames, c.told-lines)))
