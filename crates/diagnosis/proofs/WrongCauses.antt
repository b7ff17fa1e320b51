-- What the statement of the causes shuts out, field by field, by the runs of WorkedCauses.antt and engines/proofs.
--
--   fed             the cause alone: the handset is not fed                               not_unfed
--   not_silent      a cause beside every answer, a lone scheduled block's too             not_everywhere
--                   no cause at all                                                       not_never
--                   a cause where the mode that stands would be silent                    not_standing_mode
--   nothing_heard   a miss told of every silence                                          not_always_missed
--   miss_shown      nothing heard told of every silence                                   not_always_nothing
--   values          U counts the scheduled block                                          not_block_counted
--                   the value expected without the modulus                                not_unwrapped
--                   V of the last position of K, which need not be the latest subframe    not_by_position
--   how_many        V and the value expected exchanged                                    not_exchanged
--   exactly         the value expected always 1                                           not_always_one
-- Assumes nothing.
use Rattle.std.proofs.Common.{Option, Some, None, Result, Ok, Err}
use Prim.Native.Nat.{ℕ, suc, ◌+◌}
use mathlib.Core.Bool.{cond}
use mathlib.Core.List.{List, [], ◌∷◌}
use mathlib.Core.Path.{◌≡◌, refl, ap}
use native.Mathlib.Omega.{arith}
use lib.Dec.{eqb}
use Rattle.frame.specs.Table.{window_of}
use Rattle.heard.specs.declared.Heard.{Heard}
use Rattle.heard.specs.declared.Heard.TheVariants.{Nothing}
use Rattle.heard.specs.Memory.{view_ago}
use Rattle.fold.specs.declared.Seen.{Seen}
use Rattle.fold.specs.Fold.{expected, unseen, seen_from}
use Rattle.reply.specs.declared.Answer.{Answer}
use Rattle.reply.specs.declared.Answer.TheVariants as answer
use Rattle.handset.specs.Feed.{Fed}
use Rattle.handset.specs.declared.Handset.{Handset}
use Rattle.handset.specs.Feed.{answer_of, feed_of}
use Rattle.silence.specs.declared.Cause.{Cause}
use Rattle.silence.specs.declared.Cause.TheVariants.{NothingHeard, MissShown}
use Rattle.silence.specs.Cause.{window_seen, silence_cause, explain_of}
use Rattle.silence.specs.Exactly.{Explaining}
use Rattle.agreement.specs.Demand3.{feedback_engine}
use Rattle.engines.proofs.Finite.{sending}
use Rattle.engines.proofs.Worked.{Run, Worked, fed_nothing, missed, first_missed, lone_block, lone_block_holds, missed_with_block, missed_with_block_holds}
use Rattle.diagnosis.specs.Diagnosis.{CausesTold, Diagnosed}
use Rattle.diagnosis.proofs.WorkedCauses.{explaining, second_missed, second_missed_holds, latest_heard, latest_heard_holds, five_heard, five_heard_holds, missed_in_mode, missed_in_mode_holds}

-- The right feed with another cause.
abbrev telling : (Handset → Heard → Option Cause) → Explaining
telling cause h x = record { fed = feed_of h x; cause = cause h x }

-- Another cause beside a silence alone.
abbrev beside_silence : Result Answer ℕ → Option Cause → Option Cause
beside_silence (Ok answer.Taken) c = None
beside_silence (Ok answer.NoWindow) c = None
beside_silence (Ok answer.Silent) c = c
beside_silence (Ok (answer.Sent r)) c = None
beside_silence (Err k) c = None

abbrev telling_of : (Handset → Option Cause) → Explaining
telling_of cause = telling (λ h x. beside_silence (feed_of h x).answer (cause h))

-- Two causes, by U, as the right call has them; the second is another.
abbrev missing : (Seen → Option Cause) → Explaining
missing miss = telling_of (λ h. cond (eqb (window_seen h).u 0) (Some NothingHeard) (miss (window_seen h)))

-- What the statement says of a worked run.
told_in : (explain : Explaining) → Diagnosed feedback_engine explain → (r : Run) → Worked r → CausesTold feedback_engine explain r.set (sending r.sends) r.items
told_in explain d r w = d r.set w.accepted (sending r.sends) w.schedule r.items w.brings

pub not_unfed : Diagnosed feedback_engine (λ h x. record { fed = record { answer = (feed_of h x).answer; handset = h }; cause = (explain_of h x).cause }) → ⊥
unfolding explaining
not_unfed d =
    let e = (told_in _ d missed first_missed).fed 0 Nothing (record { inside = omega arith; brings = refl }) in
    omega (arith, ap (λ (f : Fed). f.handset.next) e)

pub not_everywhere : Diagnosed feedback_engine (telling (λ h x. Some (silence_cause (window_seen h)))) → ⊥
unfolding explaining
not_everywhere d =
    let e : (Some NothingHeard) ≡ None =
    ((told_in _ d lone_block lone_block_holds).not_silent 12 Nothing (record { inside = omega arith; brings = refl })).1
    (λ s. let z : ◌≡◌ {A = ℕ} 0 1 = cc in omega arith) in
    let z : ◌≡◌ {A = ℕ} 0 1 = cc in
    omega arith

pub not_never : Diagnosed feedback_engine (telling (λ h x. None)) → ⊥
unfolding explaining
not_never d = ((told_in _ d missed first_missed).not_silent 2 Nothing (record { inside = omega arith; brings = refl })).0 refl refl

-- The right causes, beside what the mode that stands would answer: at subframe 12, item 14, a reply in multiplexing would have one.
pub not_standing_mode : Diagnosed feedback_engine
    (telling (λ h x. beside_silence (Ok (answer_of h.settings h.next (view_ago h.past))) (Some (silence_cause (window_seen h))))) → ⊥
unfolding explaining
not_standing_mode d =
    let e : Some (MissShown 2 1) ≡ None =
    ((told_in _ d missed_in_mode missed_in_mode_holds).not_silent 14 Nothing (record { inside = omega arith; brings = refl })).1
    (λ s. let z : ◌≡◌ {A = ℕ} 0 1 = cc in omega arith) in
    let z : ◌≡◌ {A = ℕ} 0 1 = cc in
    omega arith

pub not_always_missed : Diagnosed feedback_engine (telling_of (λ h. Some (MissShown (window_seen h).v (expected (window_seen h).u)))) → ⊥
unfolding explaining
not_always_missed d =
    let e : Some (MissShown 0 1) ≡ Some NothingHeard =
    ((told_in _ d missed first_missed).nothing_heard 2 2 Nothing (fed_nothing missed 2 (omega arith) refl refl) refl).1 refl in
    let z : ◌≡◌ {A = ℕ} 0 1 = cc in
    omega arith

pub not_always_nothing : Diagnosed feedback_engine (telling_of (λ h. Some NothingHeard)) → ⊥
unfolding explaining
not_always_nothing d =
    let p = ((told_in _ d missed first_missed).miss_shown 7 7 Nothing (fed_nothing missed 7 (omega arith) refl refl) refl).1 (λ e. omega (arith, e)) in
    let e : (Some NothingHeard) ≡ Some (MissShown p.0 p.1) = p.2 in
    let z : ◌≡◌ {A = ℕ} 0 1 = cc in
    omega arith

pub not_block_counted : Diagnosed feedback_engine (missing (λ seen. Some (MissShown seen.v (expected (cond seen.scheduled 1 0 + seen.u))))) → ⊥
unfolding explaining
not_block_counted d =
    omega (arith, ((told_in _ d missed_with_block missed_with_block_holds).values 12 12 Nothing (fed_nothing missed_with_block 12 (omega arith) refl refl) 2 2 refl).1)

pub not_unwrapped : Diagnosed feedback_engine (missing (λ seen. Some (MissShown seen.v seen.u))) → ⊥
unfolding explaining
not_unwrapped d = omega (arith, ((told_in _ d five_heard five_heard_holds).values 12 12 Nothing (fed_nothing five_heard 12 (omega arith) refl refl) 2 5 refl).1)

-- The positions of a window in the order of K.
abbrev positions_from : ℕ → List ℕ → List ℕ
positions_from i [] = []
positions_from i (k ∷ ks) = i ∷ positions_from (suc i) ks

abbrev seen_by_position : Handset → Seen
seen_by_position h =
    let ks : List ℕ = window_of h.settings.config h.next in
    seen_from (view_ago h.past) ks (positions_from 0 ks) unseen

pub not_by_position : Diagnosed feedback_engine (telling_of (λ h. Some (silence_cause (seen_by_position h)))) → ⊥
unfolding explaining
not_by_position d = omega (arith, ((told_in _ d latest_heard latest_heard_holds).values 12 12 Nothing (fed_nothing latest_heard 12 (omega arith) refl refl) 2 2 refl).0)

pub not_exchanged : Diagnosed feedback_engine (missing (λ seen. Some (MissShown (expected seen.u) seen.v))) → ⊥
unfolding explaining
not_exchanged d = omega (arith, (told_in _ d second_missed second_missed_holds).how_many 17 17 Nothing (fed_nothing second_missed 17 (omega arith) refl refl) 2 3 refl)

pub not_always_one : Diagnosed feedback_engine (missing (λ seen. Some (MissShown seen.v 1))) → ⊥
unfolding explaining
not_always_one d =
    omega (arith, (told_in _ d second_missed second_missed_holds).exactly 17 17 Nothing (fed_nothing second_missed 17 (omega arith) refl refl) (omega arith) 3 1 refl)
