use Rattle.calls.proofs.Joining.{ends_at, owns-drawn, chosen_is}
use Rattle.calls.proofs.stages.choose.Goals as goal

pub own_frames-requires : goal.own_frames-requires
own_frames-requires c = let a = c.args in owns-drawn a.reg.now a.book.now a.watch a.a c.requires _ c.draw_slot-drawn.ensures

pub returns : goal.returns
returns c = let a = c.args in ends_at (chosen_is a.reg.now a.book.now a.watch a.a c.requires _ c.draw_slot-drawn.ensures) c.own_frames.ensures
