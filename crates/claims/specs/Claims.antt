-- Claims of a cell: document 01, "Claims of a cell" and refusals 15 and 16; document 02, U9.
-- Assumes nothing.
use Rattle.std.specs.Prelude.{Result, Ok, Err, Option, Some, None, ℕ, zero, suc, ◌+◌, ◌*◌, ◌/◌, ◌%◌, Bool, false, cond, not, ◌&&◌, ◌||◌, List, ◌++◌, map, ltb, eqb, length, get_or, drop, ◌≡◌, ⊤}
use Rattle.std.specs.List.{range_with_len}
use Rattle.resource.specs.declared.Resource.{Resource}
use Rattle.frame.specs.declared.Settings.{Settings}
use Rattle.frame.specs.declared.refusal.Refusal.TheVariants as refusal
use Rattle.frame.specs.Refusals.{number_of}
use Rattle.frame.specs.Settings.{or_else, has_second_port, window_refusal}
use Rattle.resource.specs.Calls.{size_of, resource_of}
use Rattle.resource.specs.Formula.{edge}
use Rattle.claims.specs.declared.RefusedClaims.{RefusedClaims}
use Rattle.claims.specs.declared.RefusedClaims.TheVariants.{Refused, BadClaim}

-- A claim is m × 256 + first CCE.
abbrev pub claim_position : ℕ → ℕ
claim_position claim = claim / 256

abbrev pub claim_cce : ℕ → ℕ
claim_cce claim = claim % 256

-- The resource call's answer for a claim.
abbrev pub claimed : Settings → ℕ → ℕ → Result Resource ℕ
claimed s n claim = resource_of s n (claim_position claim) (claim_cce claim)

-- M × N_4, the number of resources of the window.
unfoldable pub resources_of : Settings → ℕ → ℕ
resources_of s n = size_of s n * edge s.nrb 4

-- U9: "With two ports both scratch forms need one resource more": the second port's of the last one.
abbrev pub ports_more : Settings → ℕ
ports_more s = cond (has_second_port s) 1 0

-- The number of marks, one for each resource that a claim of the window may have. In the byte form a mark takes a byte, so that this is
-- the scratch that is asked for; in the bit form (Bits.antt) it takes a bit.
unfoldable pub room_of : Settings → ℕ → ℕ
room_of s n = resources_of s n + ports_more s

-- 16: m not below M or CCE not below N_4.
unfoldable pub is_bad : Settings → ℕ → ℕ → Bool
is_bad s n claim = not (ltb (claim_position claim) (size_of s n) && ltb (claim_cce claim) (edge s.nrb 4))

-- The first index, of `count` from i on, at which the test passes; the one after them where it passes at none.
abbrev pub first_index : (ℕ → Bool) → ℕ → ℕ → ℕ
first_index test zero i = i
first_index test (suc count) i = cond (test i) i (first_index test count (suc i))

-- The first bad claim; the length of the list where none is bad.
unfoldable pub first_bad : Settings → ℕ → List ℕ → ℕ
first_bad s n claims = first_index (λ (i : ℕ). is_bad s n (get_or claims i 0)) (length claims) 0

-- A claim takes resource r, where the resource call gave its answer: r is that of the first port, or with two ports the one above it.
abbrev pub takes : Settings → Result Resource ℕ → ℕ → Bool
takes s (Ok x) r = eqb x.0 r || (has_second_port s && eqb (x.0 + 1) r)
takes s (Err k) r = false

-- Of two claims with these answers the later one takes a resource of the earlier one.
abbrev pub meets : Settings → Result Resource ℕ → Result Resource ℕ → Bool
meets s x (Ok y) = takes s x y.0 || (has_second_port s && takes s x (y.0 + 1))
meets s x (Err k) = false

-- U9: "Two claims clash when any of their resources coincide". With one port, and where neither is bad, that is 01's "equal to an
-- earlier one" (OnPorts.antt).
unfoldable pub clashes : Settings → ℕ → ℕ → ℕ → Bool
clashes s n a b = meets s (claimed s n a) (claimed s n b)

-- The claim clashes with one that stands in the list before index i.
abbrev pub earlier : Settings → ℕ → List ℕ → ℕ → ℕ → Bool
earlier s n claims zero claim = false
earlier s n claims (suc i) claim = clashes s n (get_or claims i 0) claim || earlier s n claims i claim

-- The first claim that clashes with an earlier one; the length of the list where there is none.
unfoldable pub first_clash : Settings → ℕ → List ℕ → ℕ
first_clash s n claims = first_index (λ (i : ℕ). earlier s n claims i (get_or claims i 0)) (length claims) 0

-- 15: scratch shorter than `room`, the bytes that its form asks for. A call refuses 1 to 6, 17, 19, 24 and 7, then 15. `lent` is the
-- length of the scratch.
unfoldable pub scratch_refusal : Settings → ℕ → ℕ → ℕ → ℕ
scratch_refusal s n room lent = or_else (window_refusal s n) (cond (ltb lent room) 15 0)

-- What a list of claims comes to: the index of the first claim that clashes with an earlier one, none where the list is clean; or a
-- refusal's number with an index, that of the first bad claim for 16, else 0.
abbrev pub Checked : Type 0
Checked = Result (Option ℕ) (ℕ × ℕ)

-- A result of the code with its refusal as a number.
abbrev pub numbered_claims : Result (Option ℕ) RefusedClaims → Checked
numbered_claims (Ok clash) = Ok clash
numbered_claims (Err (Refused r)) = Err (number_of r, 0)
numbered_claims (Err (BadClaim i)) = Err (16, i)

-- A bad claim is refused with its index, and by no other refusal.
abbrev pub BadByIndex : RefusedClaims → Type 0
BadByIndex (Refused r) = r ≡ refusal.Claim → ⊥
BadByIndex (BadClaim i) = ⊤

-- What a search of a list answers that ended at index i, of `count`: none where it came to the end.
abbrev pub found : ℕ → ℕ → Option ℕ
found i count = cond (ltb i count) (Some i) None

-- 01's answer of a list that is not refused for settings, subframe or scratch, where `clash` is the index of the first clash: 16 for a
-- bad claim anywhere, with the first one's index; else that index; else, where it is the length of the list, clean.
abbrev pub checked_at : Settings → ℕ → List ℕ → ℕ → Checked
checked_at s n claims clash =
    cond (ltb (first_bad s n claims) (length claims)) (Err (16, first_bad s n claims))
    (Ok (found clash (length claims)))

-- The first clash is that of the first claim that clashes with an earlier one.
unfoldable pub checked_on : Settings → ℕ → List ℕ → Checked
checked_on s n claims = checked_at s n claims (first_clash s n claims)

abbrev pub refused_or : ℕ → Checked → Checked
refused_or zero checked = checked
refused_or (suc k) checked = Err (suc k, 0)

-- The answer to a list of claims with a scratch of `lent` bytes, in a form that asks for `room`.
unfoldable pub checked_with : Settings → ℕ → List ℕ → ℕ → ℕ → Checked
checked_with s n claims room lent = refused_or (scratch_refusal s n room lent) (checked_on s n claims)

-- The byte form: 15 is a scratch shorter than M × N_4, with two ports than M × N_4 + 1.
abbrev pub checked_of : Settings → ℕ → List ℕ → ℕ → Checked
checked_of s n claims lent = checked_with s n claims (room_of s n) lent

-- t + N1 is a resource of a claim before index e; U9: "mark both resources of a claim".
abbrev pub marked : Settings → ℕ → List ℕ → ℕ → ℕ → Bool
marked s n claims zero t = false
marked s n claims (suc e) t = takes s (claimed s n (get_or claims e 0)) (t + s.n1) || marked s n claims e t

-- The bytes t, t + 1, .., `count` of them: 1 where the test passes, else 0.
abbrev pub marks_from : (ℕ → Bool) → ℕ → ℕ → List ℕ
marks_from test count t = map (λ (k : ℕ). cond (test k) 1 0) (range_with_len t count)

-- The scratch with the marks of the claims before index e; bytes from M × N_4 on, with two ports from M × N_4 + 1 on, keep their
-- values.
unfoldable pub marked_up_to : Settings → ℕ → List ℕ → List ℕ → ℕ → List ℕ
marked_up_to s n claims old e = marks_from (marked s n claims e) (room_of s n) 0 ++ drop (room_of s n) old

-- The scratch after the call, given the one with the marks: as it was on a refusal, 16 included.
abbrev pub scratch_after : Checked → List ℕ → List ℕ → List ℕ
scratch_after (Ok clash) new old = new
scratch_after (Err refused) new old = old

-- The byte form's: the marks of the claims before the clash, of all where there is none.
unfoldable pub scratch_of : Settings → ℕ → List ℕ → List ℕ → List ℕ
scratch_of s n claims old =
    scratch_after (checked_of s n claims (length old)) (marked_up_to s n claims old (first_clash s n claims)) old
