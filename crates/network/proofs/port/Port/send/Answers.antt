use Rattle.std.proofs.Common.{map, length, sym, ap, ◌∙◌}
use Rattle.std.proofs.lemmas.List.{length-map}
use Rattle.egress.specs.Lines.{frames}
use Rattle.egress.specs.Waiting.{rest}
use Rattle.network.proofs.Places.{length_place}
use Rattle.network.proofs.port.Port.send.Goals as goal

pub invariant_of-self-else-class-eq7-clause-seven : goal.invariant_of-self-else-class-eq7-clause-seven
invariant_of-self-else-class-eq7-clause-seven g c =
    let s = c.args.self.now in
    sym (length-map c.drop_first.new.lines frames) ∙ ap length c.drop_first.ensures ∙ length_place c.from.result rest (map frames s.ordinary) ∙ length-map s.ordinary frames ∙ s.seven
