-- `counting::windows_before` meets its contract. The whole frames complete no more windows than they have subframes, and all subframes no
-- more than there are.
use Rattle.std.proofs.Common.{arith}
use Rattle.counting.proofs.Frames.{complete_within, frames_most, windows_most, some_left, none_left}
use Rattle.counting.proofs.windows_before.Goals as goal

pub overflow_mul-frames : goal.overflow_mul-frames
overflow_mul-frames c =
    let a = c.args in
    rw (c.complete.ensures, complete_within a.config 9 (omega arith)) (omega (arith, frames_most a.config a.count))

pub overflow_add-result : goal.overflow_add-result
overflow_add-result c =
    let a = c.args in
    rw (some_left a.config a.count _ c.complete.ensures _ c.in-Some.last c.complete-in-Some.ensures (omega arith)) (omega (arith, windows_most a.config a.count))

pub returns-in-Some : goal.returns-in-Some
returns-in-Some c = some_left c.args.config c.args.count _ c.complete.ensures _ c.in-Some.last c.complete-in-Some.ensures (omega arith)

pub returns-in-None : goal.returns-in-None
returns-in-None c = none_left c.args.config c.args.count _ c.complete.ensures (λ h. c.in-None.ensures h)
