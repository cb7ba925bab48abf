use Rattle.std.proofs.Common.{ltb, List, [], ◌∷◌, ◌++◌, length, get_or, ◌<◌, ap, ◌∙◌, arith}
use Rattle.std.proofs.lemmas.List.{get_or-map}
use Rattle.std.proofs.lemmas.Bool.{cond-true, lt-ltb}
use Rattle.egress.specs.Lines.{FrameLine, flows, frames}
use Rattle.egress.specs.declared.ordinary.Frame.{Frame}
use Rattle.network.specs.Steps.{port_of, lining}
use Rattle.network.proofs.Places.{place_seen}
use Rattle.network.proofs.port.Port.enqueue.Goals as goal

pub returns : goal.returns
unfolding port_of lining
returns g c =
    let xs = c.args.self.now.ordinary in let k = c.args.class in
    let d : FrameLine = record { slots = []; line = record { head = 0; count = 0 } } in
    let within : k < length xs = omega (arith, c.args.self.now.seven, c.requires.0) in
    let ws : List Frame = frames (get_or xs k d) in
    let room : length ws < 8 = omega (arith, c.requires.1, ap length (get_or-map frames xs k d [] within)) in
    let s = c.args.self.now in
    let line = place_seen frames k (λ line. line ++ c.args.frame ∷ []) xs _ d within (c.push.ensures.waiting ∙ cond-true (ltb (length ws) 8) (ws ++ c.args.frame ∷ []) ws (lt-ltb (length ws) 8 room)) in
    λ i. record { scheduled = flows s.scheduled; ordinary = line i; class = s.wire.class; until = s.wire.until; selection = s.selection }
