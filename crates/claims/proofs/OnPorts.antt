-- What document 02, U9, says of claims, proved: specs/OnPorts.antt.
-- Assumes nothing.
use Rattle.std.proofs.Common.{Option, Some, None, Result, Ok, Err}
use Rattle.resource.specs.declared.ports.OnPorts.{OnPorts as BothPorts}
use Rattle.resource.specs.declared.Resource.{Resource}
use Prim.Native.Nat.{ℕ, zero, suc, ◌+◌, ◌-◌, ◌/◌, ◌<◌, ◌≤◌}
use mathlib.Core.Bool.{Bool, true, false, cond, ◌||◌, or-true, false≢true}
use mathlib.Core.List.{List, [], ◌∷◌}
use mathlib.Core.Logic.{◌⊎◌, inl, inr, ⊎_elim, ◌↔◌}
use mathlib.Core.Path.{◌≡◌, refl, sym, ap, ap₂, subst, ◌∙◌}
use native.Mathlib.Nat.{add-zero, not-suc-le-zero, le_of_suc-le-suc, eq-or-lt_of_le}
use native.Mathlib.Omega.{arith}
use lib.Dec.{eqb, ltb}
use lib.ListN.{length, get_or, take, drop}
use borrow.Author.Tests.{eq-eqb, eqb-true, ltb-false}
use Rattle.std.proofs.lemmas.Bool.{or_cases}
use Rattle.frame.specs.declared.Settings.{Settings}
use Rattle.frame.specs.Order.{member}
use Rattle.frame.specs.Settings.{or_else, has_second_port, window_refusal}
use Rattle.frame.proofs.Ports.{two_have_second, one_has_none}
use Rattle.resource.specs.Ports.{second_port, on_ports, ports_of}
use Rattle.resource.proofs.OneToOne.{resource_call, resource_range}
use Rattle.resource.proofs.SecondPort.{port_above, call_most}
use Rattle.claims.specs.Bits.{bit_room_of}
use Rattle.claims.specs.Claims.{claim_position, claim_cce, claimed, resources_of, ports_more, room_of, is_bad, first_bad, takes, clashes, earlier, first_clash, scratch_refusal, Checked, found, checked_at, checked_on, refused_or, checked_with, checked_of, marked, marked_up_to, scratch_of}
use Rattle.claims.specs.Clean.{HasOnPort}
use Rattle.claims.specs.Forms.{Answered}
use Rattle.claims.specs.Marking.{Has}
use Rattle.claims.specs.OnPorts.{OnPorts, TwoPorts, first_equal, OnePort, SameCell, MixedCell, ClaimsOnPorts}
use Rattle.claims.proofs.BitByBit.{accepted_with, answered_scratch}
use Rattle.claims.proofs.Front as front
use Rattle.claims.proofs.First.{first_only_holds, first_bad_holds, first_clash_holds}
use Rattle.claims.proofs.Counts.{resources_most}
use Rattle.claims.proofs.Marked.{either_first}
use Rattle.claims.proofs.Share.{one_resource, takes_to, takes_from, share_exactly, equal_exactly, apart_exactly}

-- A number is among the first i + 1 of a list where it is the last of them or among the others.
member_next : (c : ℕ) (l : List ℕ) (i : ℕ) → i < length l → member c (take (suc i) l) ≡ (eqb (get_or l i 0) c || member c (take i l))
member_next c [] i h = absurd (not-suc-le-zero h)
member_next c (x ∷ l) zero h = refl
member_next c (x ∷ l) (suc i) h =
    ap (λ (m : Bool). eqb x c || m) (member_next c l i (le_of_suc-le-suc h)) ∙ either_first (eqb x c) (eqb (get_or l i 0) c) (member c (take i l))

module _ (s : Settings) (n : ℕ) (claims : List ℕ) where
  marked_to : (e t : ℕ) → marked s n claims e t ≡ true → (i : ℕ) × (i < e) × HasOnPort s n (get_or claims i 0) (t + s.n1)
  marked_to zero t h = absurd (false≢true h)
  marked_to (suc e) t h =
      ⊎_elim
      (λ here. (e, omega arith, takes_to s n (get_or claims e 0) (t + s.n1) here))
      (λ before. let f = marked_to e t before in (f.0, omega (arith, f.1), f.2))
      (or_cases (takes s (claimed s n (get_or claims e 0)) (t + s.n1)) (marked s n claims e t) h)

  marked_from : (e t i : ℕ) → i < e → HasOnPort s n (get_or claims i 0) (t + s.n1) → marked s n claims e t ≡ true
  marked_from zero t i h has = absurd (not-suc-le-zero h)
  marked_from (suc e) t i h has =
      ⊎_elim
      (λ last. rw (takes_from s n (get_or claims e 0) (t + s.n1) (rw last at has)))
      (λ less. rw (marked_from e t i less has) (or-true (takes s (claimed s n (get_or claims e 0)) (t + s.n1))))
      (eq-or-lt_of_le (le_of_suc-le-suc h))

-- The resources of a claim are those of the resource call.
module _ (s : Settings) (n a : ℕ) where
  abbrev m : ℕ
  m = claim_position a

  abbrev c : ℕ
  c = claim_cce a

  abbrev numbers : Result BothPorts ℕ → ℕ × Option Resource
  numbers (Ok both) = (both.first.0, both.second)
  numbers (Err k) = (0, None)

  abbrev above_first : ℕ → Option Resource
  above_first x = Some (record { 0 = x + 1 })

  abbrev number : Option Resource → ℕ
  number None = 0
  number (Some x) = x.0

  given_exactly : (p : ℕ) (q : Option Resource) → ports_of s n m c ≡ Ok (record { first = (record { 0 = p }); second = q })
      → (r : ℕ) → HasOnPort s n a r ↔ ((r ≡ p) ⊎ ((s.ports ≡ 2) × (q ≡ Some (record { 0 = r }))))
  unfolding ports_of
  given_exactly p q e r = go (claimed s n a) refl e
    where
      go : (x : Result Resource ℕ) → claimed s n a ≡ x → on_ports s x ≡ Ok (record { first = (record { 0 = p }); second = q }) → HasOnPort s n a r ↔ ((r ≡ p) ⊎ ((s.ports ≡ 2) × (q ≡ Some (record { 0 = r }))))
      go (Ok x) there e =
          let f : (x.0 ≡ p) × (second_port s x.0 ≡ q) = (ap (λ (y : Result BothPorts ℕ). (numbers y).0) e, ap (λ (y : Result BothPorts ℕ). (numbers y).1) e) in
          let above : s.ports ≡ 2 → second_port s x.0 ≡ above_first x.0 = λ two. port_above s x.0 two (omega (arith, call_most s n m c x.0 there)) in (
            ⊎_elim
                (λ has. inl (one_resource s n a r x.0 has there ∙ f.0))
                (λ on.
                let first : on.1 ≡ x.0 = one_resource s n a on.1 x.0 on.2 there in
                inr (on.0, sym f.1 ∙ above on.0 ∙ ap (λ (k : ℕ). Some (record { 0 = k })) (sym (on.3 ∙ ap (λ (k : ℕ). k + 1) first)))),
            ⊎_elim
                (λ e. inl (rw (e ∙ sym f.0) there))
                (λ on. inr (on.0, x.0, there, ap number (sym on.1 ∙ sym f.1 ∙ above on.0))),
          )
      go (Err k) there e = let z : ◌≡◌ {A = ℕ} 0 1 = cc in absurd (omega arith)

  none_refused : (k : ℕ) → ports_of s n m c ≡ Err k → (r : ℕ) → HasOnPort s n a r → ⊥
  unfolding ports_of
  none_refused k e r on = go (claimed s n a) refl e (takes_from s n a r on)
    where
      go : (x : Result Resource ℕ) → claimed s n a ≡ x → on_ports s x ≡ Err k → takes s (claimed s n a) r ≡ true → ⊥
      go (Ok x) there e h = let z : ◌≡◌ {A = ℕ} 0 1 = cc in omega arith
      go (Err j) there e h = false≢true (sym (ap (λ (x : Result Resource ℕ). takes s x r) there) ∙ h)

on_ports_holds : (s : Settings) (n : ℕ) → OnPorts s n
on_ports_holds s n =
    record {
      call = given_exactly s n;
      refused = none_refused s n;
      clash = share_exactly s n;
      marks = λ claims e t. (marked_to s n claims e t, λ f. marked_from s n claims e t f.0 f.1 f.2);
    }

two_ports_holds : (s : Settings) (n : ℕ) → s.ports ≡ 2 → TwoPorts s n
unfolding room_of bit_room_of
two_ports_holds s n two =
    let more : resources_of s n + ports_more s ≡ resources_of s n + 1 = rw (two_have_second s two) in
    record {
      room = more;
      bit_room = rw more (omega arith);
      clash = apart_exactly s n two;
    }

module _ (s : Settings) (n : ℕ) (one : s.ports ≡ 1) where
  no_second : has_second_port s ≡ false
  no_second = one_has_none s one

  same_room : room_of s n ≡ resources_of s n
  unfolding room_of
  same_room = rw no_second (add-zero (resources_of s n))

  same_bit_room : bit_room_of s n ≡ (resources_of s n + 7) / 8
  unfolding bit_room_of
  same_bit_room = rw same_room

  -- A resource on a port is the first port's.
  first_port : (claim r : ℕ) → HasOnPort s n claim r → Has s n claim r
  first_port claim r (inl has) = has
  first_port claim r (inr on) = absurd (omega (arith, one, on.0))

  first_marks : (claims : List ℕ) (e t : ℕ) → (marked s n claims e t ≡ true) ↔ ((i : ℕ) × (i < e) × Has s n (get_or claims i 0) (t + s.n1))
  first_marks claims e t = (
    λ h. let f = marked_to s n claims e t h in (f.0, f.1, first_port (get_or claims f.0 0) (t + s.n1) f.2),
    λ f. marked_from s n claims e t f.0 f.1 (inl f.2),
  )

  -- Where the settings and the subframe are accepted.
  module _ (accepted : window_refusal s n ≡ 0) where
    at_most : (room_of s n ≤ 1206) × (bit_room_of s n ≤ 151)
    at_most = (omega (arith, same_room, resources_most s n accepted), omega (arith, same_bit_room, resources_most s n accepted))

    equal_clash : (a b : ℕ) → is_bad s n a ≡ false → is_bad s n b ≡ false → (clashes s n a b ≡ true) ↔ (a ≡ b)
    equal_clash a b ga gb =
        let same = equal_exactly s n no_second accepted a b ga gb in
        (λ e. eqb-true a b (sym same ∙ e), λ e. same ∙ eq-eqb a b e)

    module _ (claims : List ℕ) (good : (i : ℕ) → i < length claims → is_bad s n (get_or claims i 0) ≡ false) where
      equal_earlier : (c : ℕ) → is_bad s n c ≡ false → (e : ℕ) → e ≤ length claims → earlier s n claims e c ≡ member c (take e claims)
      equal_earlier c fine zero h = refl
      equal_earlier c fine (suc e) h =
          ap₂ ◌||◌ (equal_exactly s n no_second accepted (get_or claims e 0) c (good e (omega arith)) fine) (equal_earlier c fine e (omega arith))
          ∙ sym (member_next c claims e (omega arith))

      same_test : (i : ℕ) → i < length claims → earlier s n claims i (get_or claims i 0) ≡ member (get_or claims i 0) (take i claims)
      same_test i h = equal_earlier (get_or claims i 0) (good i h) i (omega arith)

      first_equal_holds : first_clash s n claims ≡ first_equal claims
      first_equal_holds =
          let f = first_clash_holds s n claims in
          first_only_holds _ (length claims) (first_clash s n claims)
          (record {
            least = f.least;
            most = f.most;
            before = λ i low below. sym (same_test i (omega (arith, f.most))) ∙ f.before i low below;
            passes = λ h. sym (same_test (first_clash s n claims) h) ∙ f.passes h;
          })

    -- The answer: where a claim is bad, 16 whatever the first clash is.
    same_checked : (claims : List ℕ) → checked_on s n claims ≡ checked_at s n claims (first_equal claims)
    unfolding checked_on
    same_checked claims = go (ltb (first_bad s n claims) (length claims)) refl
      where
        go : (b : Bool) → ltb (first_bad s n claims) (length claims) ≡ b → checked_at s n claims (first_clash s n claims) ≡ checked_at s n claims (first_equal claims)
        go true bad = rw bad
        go false good =
            let none = ltb-false (first_bad s n claims) (length claims) good in
            rw (first_equal_holds claims (λ i h. (first_bad_holds s n claims).before i (omega arith) (omega arith)))

  -- The answer of either form; settings and subframe that are refused are answered alike.
  same_answer : (claims : List ℕ) (room lent : ℕ) → checked_with s n claims room lent ≡ refused_or (scratch_refusal s n room lent) (checked_at s n claims (first_equal claims))
  unfolding checked_with scratch_refusal
  same_answer claims room lent = go (window_refusal s n) refl
    where
      go : (k : ℕ) → window_refusal s n ≡ k
          → refused_or (or_else k (cond (ltb lent room) 15 0)) (checked_on s n claims) ≡ refused_or (or_else k (cond (ltb lent room) 15 0)) (checked_at s n claims (first_equal claims))
      go zero e = rw (same_checked e claims)
      go (suc k) e = refl

  -- Where the answer is no refusal, no claim is bad.
  no_bad : (claims : List ℕ) (lent : ℕ) → Answered (checked_of s n claims lent) → (i : ℕ) → i < length claims → is_bad s n (get_or claims i 0) ≡ false
  unfolding checked_with checked_on
  no_bad claims lent a i h = go (scratch_refusal s n (room_of s n) lent) (ltb (first_bad s n claims) (length claims)) refl a
    where
      go : (k : ℕ) (b : Bool) → ltb (first_bad s n claims) (length claims) ≡ b
          → Answered (refused_or k (cond b (Err (16, first_bad s n claims)) (Ok (found (first_clash s n claims) (length claims)))))
          → is_bad s n (get_or claims i 0) ≡ false
      go (suc k) b e a = absurd a
      go zero true e a = absurd a
      go zero false e a = (first_bad_holds s n claims).before i (omega arith) (omega (arith, ltb-false (first_bad s n claims) (length claims) e))

  module _ (claims old : List ℕ) (a : Answered (checked_of s n claims (length old))) where
    -- the scratch, by the first claim equal to an earlier one
    as_marked : scratch_of s n claims old ≡ marked_up_to s n claims old (first_equal claims)
    unfolding scratch_of
    as_marked =
        answered_scratch (checked_of s n claims (length old)) (marked_up_to s n claims old (first_clash s n claims)) old a
        ∙ ap (marked_up_to s n claims old) (first_equal_holds (accepted_with s n claims (room_of s n) (length old) a).0 claims (no_bad claims (length old) a))

    byte_here : (t : ℕ) → t < resources_of s n → get_or (scratch_of s n claims old) t 0 ≡ cond (marked s n claims (first_equal claims) t) 1 0
    byte_here t h =
        ap (λ (l : List ℕ). get_or l t 0) as_marked ∙ front.byte_marked s n claims old (first_equal claims) t (rw same_room h)

    kept_later : drop (resources_of s n) (scratch_of s n claims old) ≡ drop (resources_of s n) old
    kept_later = rw (as_marked, ← same_room) (front.later_kept s n claims old (first_equal claims))

    as_long : length (scratch_of s n claims old) ≡ length old
    as_long = ap length as_marked ∙ front.as_long s n claims old (first_equal claims) (accepted_with s n claims (room_of s n) (length old) a).1

  -- On a refusal the scratch is as it was.
  as_was : (claims old : List ℕ) (k i : ℕ) → checked_of s n claims (length old) ≡ Err (k, i) → scratch_of s n claims old ≡ old
  unfolding scratch_of
  as_was claims old k i e = rw e

  always_long : (claims old : List ℕ) → length (scratch_of s n claims old) ≡ length old
  always_long claims old = go (checked_of s n claims (length old)) refl
    where
      go : (v : Checked) → checked_of s n claims (length old) ≡ v → length (scratch_of s n claims old) ≡ length old
      go (Ok clash) e = as_long claims old (rw e tt)
      go (Err (k, i)) e = ap length (as_was claims old k i e)

  one_port_holds : OnePort s n
  one_port_holds =
      record {
        room = same_room;
        bit_room = same_bit_room;
        most = at_most;
        clash = equal_clash;
        answer = λ claims lent. same_answer claims (room_of s n) lent ∙ rw same_room;
        bit_answer = λ claims lent. same_answer claims (bit_room_of s n) lent ∙ rw same_bit_room;
        bytes = λ claims old a t h. (byte_here claims old a t h, first_marks claims (first_equal claims) t);
        later = kept_later;
        long = always_long;
      }

  -- Claims of one port beside claims of two.
  mixed_cell : (u : Settings) → SameCell s u → window_refusal s n ≡ 0 → MixedCell s u n
  unfolding resources_of
  mixed_cell u same accepted ones twos = (
    λ apart i j r h k p q.
        let range = resource_range s n accepted (claim_position (get_or ones i 0)) (claim_cce (get_or ones i 0)) r (first_port (get_or ones i 0) r p) in
        let here : r ≡ r - s.n1 + s.n1 = omega arith in
        apart (r - s.n1) (omega arith) (marked_from s n ones (length ones) (r - s.n1) i h (rw here at p))
        (marked_from u n twos (length twos) (r - s.n1) j k (rw (here ∙ ap (λ (n1 : ℕ). r - s.n1 + n1) same.n1) at q)),
    λ apart t h p q.
        let f = marked_to s n ones (length ones) t p in
        let g = marked_to u n twos (length twos) t q in
        apart f.0 g.0 (t + s.n1) f.1 g.1 f.2 (subst (λ (n1 : ℕ). HasOnPort u n (get_or twos g.0 0) (t + n1)) (sym same.n1) g.2),
  )

  -- The first port's resource is the cell's, whatever the ports.
  first_safe : (u : Settings) → SameCell s u → window_refusal s n ≡ 0 → window_refusal u n ≡ 0 → (a r : ℕ) → HasOnPort s n a r → HasOnPort u n a r
  first_safe u same accepted also a r on =
      inl (
      resource_call u n also (claim_position a) (claim_cce a)
      ∙ rw (← same.config, ← same.nrb, ← same.n1) (sym (resource_call s n accepted (claim_position a) (claim_cce a)) ∙ first_port a r on))

pub claims_on_ports : ClaimsOnPorts
claims_on_ports =
    record {
      any = on_ports_holds;
      two = two_ports_holds;
      one = one_port_holds;
      mixed = λ s u n same one accepted. mixed_cell s n one u same accepted;
      safe = λ s u n same one accepted also. first_safe s n one u same accepted also;
    }
