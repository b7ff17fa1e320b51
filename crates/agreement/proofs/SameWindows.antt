-- Document 02, U2, moved no window: "M and K don't move: whoever reads a reply sees the old windows, with fewer lists of grants
-- allowed."
-- Assumes nothing.
use Rattle.std.proofs.Common.{Option, Some, None, Result, Ok, Err}
use Rattle.resource.specs.declared.Cce.{Cce}
use Rattle.resource.specs.declared.Resource.{Resource}
use Prim.Native.Nat.{ℕ, zero, suc, ◌%◌}
use mathlib.Core.Bool.{Bool, true, false, and-false}
use mathlib.Core.List.{List, [], ◌∷◌}
use mathlib.Core.Logic.{◌↔◌}
use mathlib.Core.Path.{◌≡◌, refl, sym, ◌∙◌, fun_ext, ap}
use lib.ListN.{get_or}
use Rattle.frame.specs.declared.Settings.{Settings}
use Rattle.frame.specs.Distance.{subframe_of, answered_refusal, answered_of}
use Rattle.frame.specs.Layout.{is_special}
use Rattle.frame.specs.Earliest.{earliest_k}
use Rattle.frame.specs.Settings.{new_mode_refusal, mode_refusal, has_second_port, ports_mode_refusal, bundles, has_scheduled, settings_refusal, in_mode, window_refusal}
use Rattle.frame.specs.Special.{no_pdsch, too_short}
use Rattle.frame.specs.Table.{window_of}
use Rattle.frame.proofs.Accepted.{refused_in}
use Rattle.resource.specs.Calls.{size_of, resource_of, inverse_of}
use Rattle.resource.specs.Ports.{second_port, on_ports, ports_of}
use Rattle.symbols.specs.declared.Symbol.{Symbol}
use Rattle.symbols.specs.Selection.{symbol_of}
use Rattle.confirmation.specs.declared.Send.{Send}
use Rattle.confirmation.specs.Sent.{as_heard}
use Rattle.heard.specs.declared.Heard.{Heard}
use Rattle.heard.specs.declared.Heard.TheVariants.{Nothing, Granted, Scheduled, Released}
use Rattle.heard.specs.declared.Slot.{Slot}
use Rattle.heard.specs.declared.View.{View}
use Rattle.heard.specs.declared.View.TheVariants.{Unheard, Pdcch, Block}
use Rattle.heard.specs.Heard.{is_data, uplink_refusal, short_refusal, data_refusal, carried_refusal, pdcch_refusal, unset_refusal, heard_refusal, second_refusal, cause_of}
use Rattle.heard.specs.Memory.{heard_in, view_ago, block_ago}
use Rattle.heard.proofs.Valid.{valid_long}
use Rattle.reply.specs.declared.ReplyKind.{ReplyKind}
use Rattle.reply.specs.Replies.{reply_on, miss_shown, second_bit, lone_answer, bundled_answer, carrier_of, window_state, symbol_answer, multiplexed_answer, window_answer}
use Rattle.handset.specs.declared.Handset.{Handset}
use Rattle.handset.specs.Feed.{answer_of, window_settings, next_answer, feed_refusal, fed_as, feed_of}
use Rattle.handset.specs.Modes.{mode_ago, modes_sound}
use Rattle.handset.specs.Sound.{slot_sound, previous, all_sound, state_sound, state_refusal}
use Rattle.station.specs.declared.Place.{Place}
use Rattle.station.specs.declared.Place.TheVariants as place
use Rattle.station.specs.Readings.{bad_bits, bundled_reading, read_at, read_inverted, dynamic_reading, told_refusal, read_on, read_of}
use Rattle.agreement.specs.Run.{Schedule}

-- Two settings that differ in prefix and special configuration only.
pub record SameButSpecial (s t : Settings) : Type 0 where
  pub config : s.config ≡ t.config
  pub nrb : s.nrb ≡ t.nrb
  pub n1 : s.n1 ≡ t.n1
  pub mode : s.mode ≡ t.mode
  pub blocks : s.blocks ≡ t.blocks
  pub scheduled : s.scheduled ≡ t.scheduled
  pub ports : s.ports ≡ t.ports

-- They have the same windows, with the same refusals, and the same uplink subframe answers for a downlink one; the same resources,
-- inverses, readings with nothing told or with a position that is no special subframe, and answers of a window, whatever was heard in
-- it.
pub record SameWindows (s t : Settings) : Type 0 where
  pub windows : (n : ℕ) → window_of s.config n ≡ window_of t.config n
  pub refused : (n : ℕ) → window_refusal s n ≡ window_refusal t n
  pub answered : (d : ℕ) → answered_of s d ≡ answered_of t d
  pub resource : (n m c : ℕ) → resource_of s n m c ≡ resource_of t n m c
  pub ports : (n m c : ℕ) → ports_of s n m c ≡ ports_of t n m c
  pub inverse : (n r : ℕ) → inverse_of s n r ≡ inverse_of t n r
  pub read : (n r b0 b1 : ℕ) → read_of s n None r b0 b1 ≡ read_of t n None r b0 b1
  pub read_told : (n m : ℕ) → is_special s.config (subframe_of s.config n m) ≡ false
      → (r b0 b1 : ℕ) → read_of s n (Some m) r b0 b1 ≡ read_of t n (Some m) r b0 b1
  pub answer : (n : ℕ) (view : ℕ → View) → window_answer s n view ≡ window_answer t n view

-- And where both allow data in special subframes, nothing moves at all: the same readings, whatever is told, and the same answers to
-- every feed.
pub record SameAnswers (s t : Settings) : Type 0 where
  pub read : (n : ℕ) (told : Option ℕ) (r b0 b1 : ℕ) → read_of s n told r b0 b1 ≡ read_of t n told r b0 b1
  pub feed : (next modes : ℕ) (past : List Slot) (x : Heard)
      → (feed_of (record { settings = s; next = next; modes = modes; past = past }) x).answer
      ≡ (feed_of (record { settings = t; next = next; modes = modes; past = past }) x).answer

-- These settings with another prefix and special configuration.
abbrev with : Settings → ℕ → ℕ → Settings
with s prefix special =
    record { config = s.config; nrb = s.nrb; n1 = s.n1; mode = s.mode; blocks = s.blocks; scheduled = s.scheduled; prefix = prefix; special = special; ports = s.ports }

is_with : (s t : Settings) → SameButSpecial s t → t ≡ with s t.prefix t.special
is_with s t e = rw (e.config, e.nrb, e.n1, e.mode, e.blocks, e.scheduled, e.ports)

-- What a subframe brings is refused alike in both where it is not data, and where the subframe is too short in neither or in both.
heard_alike : (s : Settings) (prefix special n : ℕ) (x : Heard) → (is_data x ≡ true → too_short s n ≡ too_short (with s prefix special) n)
    → heard_refusal s n x ≡ heard_refusal (with s prefix special) n x
unfolding heard_refusal data_refusal uplink_refusal short_refusal carried_refusal pdcch_refusal unset_refusal has_scheduled
heard_alike s prefix special n Nothing e = refl
heard_alike s prefix special n (Granted g) e = rw (e refl)
heard_alike s prefix special n (Scheduled b) e = rw (e refl)
heard_alike s prefix special n (Released p) e = refl

-- The calls of both, where both are refused alike.
module _ (s : Settings) (prefix special : ℕ) (same : settings_refusal s ≡ settings_refusal (with s prefix special)) where
  abbrev t : Settings
  t = with s prefix special

  refused_alike : (n : ℕ) → window_refusal s n ≡ window_refusal t n
  unfolding window_refusal
  refused_alike n = rw same

  resource_alike : (n m c : ℕ) → resource_of s n m c ≡ resource_of t n m c
  unfolding resource_of
  resource_alike n m c = rw (refused_alike n)

  inverse_alike : (n r : ℕ) → inverse_of s n r ≡ inverse_of t n r
  unfolding inverse_of
  inverse_alike n r = rw (refused_alike n)

  at_alike : (size : ℕ) (p : Place) (b0 b1 : ℕ) → read_at s size p b0 b1 ≡ read_at t size p b0 b1
  unfolding read_at bundles bundled_reading bad_bits
  at_alike size p b0 b1 = refl

  inverted_alike : (size : ℕ) (i : Result (ℕ × Cce) ℕ) (b0 b1 : ℕ) → read_inverted s size i b0 b1 ≡ read_inverted t size i b0 b1
  inverted_alike size (Ok (m, c)) b0 b1 = at_alike size _ b0 b1
  inverted_alike size (Err k) b0 b1 = refl

  dynamic_alike : (n r b0 b1 : ℕ) → dynamic_reading s n r b0 b1 ≡ dynamic_reading t n r b0 b1
  unfolding dynamic_reading
  dynamic_alike n r b0 b1 = rw (inverse_alike n r) (inverted_alike (size_of s n) (inverse_of t n r) b0 b1)

  on_alike : (n : ℕ) (told : Option ℕ) (r b0 b1 : ℕ) → read_on s n told r b0 b1 ≡ read_on t n told r b0 b1
  unfolding read_on
  on_alike n None r b0 b1 = dynamic_alike n r b0 b1
  on_alike n (Some m) r b0 b1 = rw (at_alike (size_of s n) (place.Block m) b0 b1, dynamic_alike n r b0 b1)

  read_alike : (n : ℕ) (told : Option ℕ) → told_refusal s n told ≡ told_refusal t n told → (r b0 b1 : ℕ) → read_of s n told r b0 b1 ≡ read_of t n told r b0 b1
  unfolding read_of
  read_alike n told e r b0 b1 = rw (refused_alike n, e, on_alike n told r b0 b1)

  untold_alike : (n : ℕ) → told_refusal s n None ≡ told_refusal t n None
  unfolding told_refusal
  untold_alike n = refl

  told_alike : (n m : ℕ) → too_short s (subframe_of s.config n m) ≡ too_short t (subframe_of s.config n m)
      → told_refusal s n (Some m) ≡ told_refusal t n (Some m)
  unfolding told_refusal has_scheduled
  told_alike n m e = rw e

  not_special : (n m : ℕ) → is_special s.config (subframe_of s.config n m) ≡ false → told_refusal s n (Some m) ≡ told_refusal t n (Some m)
  unfolding too_short
  not_special n m e = told_alike n m (rw (e, and-false (no_pdsch s.prefix s.special), and-false (no_pdsch prefix special)))

  answered_alike : (d : ℕ) → answered_of s d ≡ answered_of t d
  unfolding answered_of answered_refusal
  answered_alike d = rw same

  carrier_alike : (n m : ℕ) (v : View) → carrier_of s n m v ≡ carrier_of t n m v
  unfolding carrier_of
  carrier_alike n m Unheard = resource_alike n m 0
  carrier_alike n m (Pdcch g) = resource_alike n m g.cce.0
  carrier_alike n m (Block b) = refl

  -- A reply has the second port's resource alike: it looks at the ports alone.
  second_alike : (r : ℕ) → second_port s r ≡ second_port t r
  unfolding second_port has_second_port
  second_alike r = refl

  on_ports_alike : (x : Result Resource ℕ) → on_ports s x ≡ on_ports t x
  on_ports_alike (Ok r) = rw (second_alike r.0)
  on_ports_alike (Err k) = refl

  ports_alike : (n m c : ℕ) → ports_of s n m c ≡ ports_of t n m c
  unfolding ports_of
  ports_alike n m c = rw (resource_alike n m c) (on_ports_alike (resource_of t n m c))

  reply_alike : (kind : ReplyKind) (x : Result Resource ℕ) (b0 b1 : ℕ) → reply_on s kind x b0 b1 ≡ reply_on t kind x b0 b1
  unfolding reply_on
  reply_alike kind (Ok r) b0 b1 = rw (second_alike r.0)
  reply_alike kind (Err k) b0 b1 = refl

  replies_alike : reply_on s ≡ reply_on t
  replies_alike = fun_ext (λ kind. fun_ext (λ x. fun_ext (λ b0. fun_ext (λ b1. reply_alike kind x b0 b1))))

  symbol_alike : (n : ℕ) (view : ℕ → View) (ks : List ℕ) (x : Option Symbol) → symbol_answer s n view ks x ≡ symbol_answer t n view ks x
  unfolding symbol_answer
  symbol_alike n view ks (Some y) = rw (carrier_alike n y.index (view (get_or ks y.index 0)), replies_alike)
  symbol_alike n view ks None = refl

  answer_alike : (n : ℕ) (view : ℕ → View) → window_answer s n view ≡ window_answer t n view
  unfolding window_answer bundles bundled_answer lone_answer miss_shown second_bit multiplexed_answer
  answer_alike n view =
      let ks : List ℕ = window_of s.config n in
      rw (resource_alike n _ _, replies_alike, symbol_alike n view ks (symbol_of (window_state view ks)))

  alike : SameWindows s t
  alike =
      record {
        windows = λ n. refl;
        refused = refused_alike;
        answered = answered_alike;
        resource = resource_alike;
        ports = ports_alike;
        inverse = inverse_alike;
        read = λ n. read_alike n None (untold_alike n);
        read_told = λ n m e. read_alike n (Some m) (not_special n m e);
        answer = answer_alike;
      }

-- Where both are accepted, and no subframe is too short in one and not in the other.
module _ (s : Settings) (prefix special : ℕ) (good : settings_refusal s ≡ 0) (also : settings_refusal (with s prefix special) ≡ 0)
    (short : (n : ℕ) → too_short s n ≡ too_short (with s prefix special) n) where
  abbrev u : Settings
  u = with s prefix special

  any_alike : (n : ℕ) (told : Option ℕ) → told_refusal s n told ≡ told_refusal u n told
  any_alike n None = untold_alike s prefix special (good ∙ sym also) n
  any_alike n (Some m) = told_alike s prefix special (good ∙ sym also) n m (short (subframe_of s.config n m))

  cause_alike : (n : ℕ) (block : ℕ → Bool) (x : Heard) → cause_of s n block x ≡ cause_of u n block x
  unfolding cause_of second_refusal
  cause_alike n block x = rw (heard_alike s prefix special n x (λ d. short n))

  sound_alike : (past : List Slot) (n : ℕ) → all_sound s n past ≡ all_sound u n past
  unfolding all_sound slot_sound
  sound_alike [] n = refl
  sound_alike (x ∷ past) n = rw (cause_alike (previous n) (block_ago past) (heard_in x), sound_alike past (previous n))

  -- In another mode both are refused alike too: by 4, 5 and 24 alone.
  mode_alike : (m : ℕ) → new_mode_refusal (in_mode s m) ≡ new_mode_refusal (in_mode u m)
  unfolding new_mode_refusal mode_refusal has_second_port ports_mode_refusal
  mode_alike m = refl

  in_mode_alike : (m : ℕ) → settings_refusal (in_mode s m) ≡ settings_refusal (in_mode u m)
  in_mode_alike m = refused_in s m good ∙ mode_alike m ∙ sym (refused_in u m also)

  modes_alike : (modes : ℕ) → modes_sound s modes ≡ modes_sound u modes
  unfolding modes_sound
  modes_alike modes = rw (mode_alike 1)

  module _ (next modes : ℕ) (past : List Slot) (x : Heard) where
    abbrev first : Handset
    first = record { settings = s; next = next; modes = modes; past = past }

    abbrev second : Handset
    second = record { settings = u; next = next; modes = modes; past = past }

    next_alike : next_answer first ≡ next_answer second
    unfolding next_answer answer_of window_settings
    next_alike =
        let m : ℕ = mode_ago modes (earliest_k s.config next) in
        rw (answer_alike (in_mode s m) prefix special (in_mode_alike m) next (view_ago past))

    refusal_alike : feed_refusal first x ≡ feed_refusal second x
    unfolding feed_refusal state_refusal state_sound
    refusal_alike = rw (good, also, modes_alike modes, sound_alike past next, cause_alike next (block_ago past) x)

    feed_alike : (feed_of first x).answer ≡ (feed_of second x).answer
    unfolding feed_of
    feed_alike = rw refusal_alike (go (feed_refusal second x))
      where
        go : (k : ℕ) → (fed_as k first x).answer ≡ (fed_as k second x).answer
        go zero = ap Ok next_alike
        go (suc k) = refl

-- M and K don't move, nor does anything that rests on them alone.
pub same_windows : (s t : Settings) → SameButSpecial s t → settings_refusal s ≡ 0 → settings_refusal t ≡ 0 → SameWindows s t
same_windows s t e good also =
    rw (is_with s t e) (alike s t.prefix t.special (good ∙ sym (rw (is_with s t e) at also)))

no_short : (s : Settings) → no_pdsch s.prefix s.special ≡ false → (n : ℕ) → too_short s n ≡ false
unfolding too_short
no_short s long n = rw long

-- Without a special configuration that forbids data nothing moved.
pub same_answers : (s t : Settings) → SameButSpecial s t → settings_refusal s ≡ 0 → settings_refusal t ≡ 0
    → no_pdsch s.prefix s.special ≡ false → no_pdsch t.prefix t.special ≡ false → SameAnswers s t
same_answers s t e good also long long' =
    rw (is_with s t e)
    (record {
      read = λ n told. read_alike s t.prefix t.special (good ∙ sym ok) n told (any_alike s t.prefix t.special good ok same n told);
      feed = feed_alike s t.prefix t.special good ok same;
    })
  where
    ok : settings_refusal (with s t.prefix t.special) ≡ 0
    ok = rw (is_with s t e) at also

    same : (n : ℕ) → too_short s n ≡ too_short (with s t.prefix t.special) n
    same n = no_short s long n ∙ sym (no_short (with s t.prefix t.special) long' n)

-- The lists of what is sent are fewer, by data in special subframes and by nothing else.
module _ (s : Settings) (prefix special : ℕ) (short : no_pdsch s.prefix s.special ≡ true) (long : no_pdsch prefix special ≡ false) where
  short_special_holds : (n : ℕ) → too_short s n ≡ is_special s.config n
  unfolding too_short
  short_special_holds n = rw short

  fewer_heard : (n : ℕ) (x : Heard)
      → (heard_refusal s n x ≡ 0) ↔ ((heard_refusal (with s prefix special) n x ≡ 0) × (is_data x ≡ true → is_special s.config n ≡ false))
  fewer_heard n x = (
    λ e. (
      sym (heard_alike s prefix special n x (λ d. valid_long s n x e d ∙ sym (no_short (with s prefix special) long n))) ∙ e,
      λ d. sym (short_special_holds n) ∙ valid_long s n x e d,
    ),
    λ p. heard_alike s prefix special n x (λ d. short_special_holds n ∙ p.1 d ∙ sym (no_short (with s prefix special) long n)) ∙ p.0,
  )

  fewer_sent : (sent : ℕ → Send) → Schedule s sent
      ↔ (Schedule (with s prefix special) sent × ((d : ℕ) → is_data (as_heard (sent d)) ≡ true → is_special s.config (d % 10) ≡ false))
  fewer_sent sent = (
    λ a. (
      record { valid = λ d. ((fewer_heard (d % 10) (as_heard (sent d))).0 (a.valid d)).0; rule = a.rule; one = a.one },
      λ d. ((fewer_heard (d % 10) (as_heard (sent d))).0 (a.valid d)).1,
    ),
    λ p. record { valid = λ d. (fewer_heard (d % 10) (as_heard (sent d))).1 (p.0.valid d, p.1 d); rule = p.0.rule; one = p.0.one },
  )

pub fewer_schedules : (s t : Settings) → SameButSpecial s t → no_pdsch s.prefix s.special ≡ true → no_pdsch t.prefix t.special ≡ false
    → (sent : ℕ → Send) → Schedule s sent ↔ (Schedule t sent × ((d : ℕ) → is_data (as_heard (sent d)) ≡ true → is_special s.config (d % 10) ≡ false))
fewer_schedules s t e short long sent = rw (is_with s t e) (fewer_sent s t.prefix t.special short long sent)
