-- What document 02, U9, says of claims, over both antenna ports; and that with one port it moved nothing: what 01 and U6 say of claims
-- holds word for word.
-- Assumes nothing.
use Rattle.std.specs.Prelude.{Option, Some, Ok, Err, ℕ, ◌+◌, ◌/◌, ◌<◌, ◌≤◌, true, false, cond, List, ◌⊎◌, ◌↔◌, ◌≡◌, length, get_or, take, drop}
use Rattle.frame.specs.declared.Settings.{Settings}
use Rattle.frame.specs.Order.{member}
use Rattle.frame.specs.Settings.{window_refusal}
use Rattle.resource.specs.declared.Resource.{Resource}
use Rattle.resource.specs.Ports.{ports_of}
use Rattle.claims.specs.Bits.{bit_room_of, bit_checked_of}
use Rattle.claims.specs.Claims.{claim_position, claim_cce, resources_of, room_of, is_bad, first_index, clashes, scratch_refusal, checked_at, refused_or, checked_of, marked, scratch_of}
use Rattle.claims.specs.Clean.{HasOnPort}
use Rattle.claims.specs.Forms.{Answered}
use Rattle.claims.specs.Marking.{Has}

-- Any number of ports.
pub record OnPorts (s : Settings) (n : ℕ) : Type 0 where
  -- a claim has the resources that the resource call gives: the first port's, and with two ports the second's
  pub call : (a p : ℕ) (q : Option Resource) → ports_of s n (claim_position a) (claim_cce a) ≡ Ok (record { first = (record { 0 = p }); second = q })
      → (r : ℕ) → HasOnPort s n a r ↔ ((r ≡ p) ⊎ ((s.ports ≡ 2) × (q ≡ Some (record { 0 = r }))))
  pub refused : (a k : ℕ) → ports_of s n (claim_position a) (claim_cce a) ≡ Err k → (r : ℕ) → HasOnPort s n a r → ⊥
  -- "Two claims clash when any of their resources coincide"
  pub clash : (a b : ℕ) → (clashes s n a b ≡ true) ↔ ((r : ℕ) × HasOnPort s n a r × HasOnPort s n b r)
  -- "mark both resources of a claim": t is marked exactly if t + N1 is a resource of a claim before index e
  pub marks : (claims : List ℕ) (e t : ℕ) → (marked s n claims e t ≡ true) ↔ ((i : ℕ) × (i < e) × HasOnPort s n (get_or claims i 0) (t + s.n1))

-- Two ports.
pub record TwoPorts (s : Settings) (n : ℕ) : Type 0 where
  -- "With two ports both scratch forms need one resource more"
  pub room : room_of s n ≡ resources_of s n + 1
  pub bit_room : bit_room_of s n ≡ (resources_of s n + 8) / 8
  -- claims clash exactly if their first resources are at most 1 apart
  pub clash : (a b p q : ℕ) → Has s n a p → Has s n b q → (clashes s n a b ≡ true) ↔ ((p ≤ q + 1) × (q ≤ p + 1))

-- 01: "the index of the first claim equal to an earlier one"; the length of the list where there is none.
abbrev pub first_equal : List ℕ → ℕ
first_equal claims = first_index (λ (i : ℕ). member (get_or claims i 0) (take i claims)) (length claims) 0

-- One port, whatever the other settings.
pub record OnePort (s : Settings) (n : ℕ) : Type 0 where
  -- 15: "scratch shorter than M × N_4"; U6: "fewer than (M × N_4 + 7) / 8 bytes, rounded down"
  pub room : room_of s n ≡ resources_of s n
  pub bit_room : bit_room_of s n ≡ (resources_of s n + 7) / 8
  pub most : window_refusal s n ≡ 0 → (room_of s n ≤ 1206) × (bit_room_of s n ≤ 151)
  -- claims that are not bad clash exactly if they are equal
  pub clash : window_refusal s n ≡ 0 → (a b : ℕ) → is_bad s n a ≡ false → is_bad s n b ≡ false → (clashes s n a b ≡ true) ↔ (a ≡ b)
  -- the answer to every list, a bad claim in it or not
  pub answer : (claims : List ℕ) (lent : ℕ)
      → checked_of s n claims lent ≡ refused_or (scratch_refusal s n (resources_of s n) lent) (checked_at s n claims (first_equal claims))
  pub bit_answer : (claims : List ℕ) (lent : ℕ)
      → bit_checked_of s n claims lent ≡ refused_or (scratch_refusal s n ((resources_of s n + 7) / 8) lent) (checked_at s n claims (first_equal claims))
  -- "byte t below M × N_4 ends as 1 if t + N1 is the resource of a claim before that index .., else 0; later bytes keep their values"; a
  -- bit of the bit form is such a byte (FormsAgree.marks), and a refusal leaves the scratch as it was by definition
  pub bytes : (claims old : List ℕ) → Answered (checked_of s n claims (length old)) → (t : ℕ) → t < resources_of s n
      → (get_or (scratch_of s n claims old) t 0 ≡ cond (marked s n claims (first_equal claims) t) 1 0)
      × ((marked s n claims (first_equal claims) t ≡ true) ↔ ((i : ℕ) × (i < first_equal claims) × Has s n (get_or claims i 0) (t + s.n1)))
  pub later : (claims old : List ℕ) → Answered (checked_of s n claims (length old)) → drop (resources_of s n) (scratch_of s n claims old) ≡ drop (resources_of s n) old
  pub long : (claims old : List ℕ) → length (scratch_of s n claims old) ≡ length old

-- Settings of handsets of one cell.
pub record SameCell (s u : Settings) : Type 0 where
  pub config : s.config ≡ u.config
  pub nrb : s.nrb ≡ u.nrb
  pub n1 : s.n1 ≡ u.n1

-- A cell with handsets of both kinds: claims of one port, with the settings s, and claims of two, with the settings u. No resource of the
-- ones is one of the others exactly if no t below M × N_4 is marked by both.
abbrev pub MixedCell : Settings → Settings → ℕ → Type 0
MixedCell s u n =
    (ones twos : List ℕ)
    → ((t : ℕ) → t < resources_of s n → marked s n ones (length ones) t ≡ true → marked u n twos (length twos) t ≡ true → ⊥)
    ↔ ((i j r : ℕ) → i < length ones → j < length twos → HasOnPort s n (get_or ones i 0) r → HasOnPort u n (get_or twos j 0) r → ⊥)

pub record ClaimsOnPorts : Type 0 where
  pub any : (s : Settings) (n : ℕ) → OnPorts s n
  pub two : (s : Settings) (n : ℕ) → s.ports ≡ 2 → TwoPorts s n
  pub one : (s : Settings) (n : ℕ) → s.ports ≡ 1 → OnePort s n
  -- in a cell with handsets of both kinds: the exact way; and that with two ports a claim has all that it has with one, so that a list that
  -- is clean with two ports is clean whichever handsets it is for
  pub mixed : (s u : Settings) (n : ℕ) → SameCell s u → s.ports ≡ 1 → window_refusal s n ≡ 0 → MixedCell s u n
  pub safe : (s u : Settings) (n : ℕ) → SameCell s u → s.ports ≡ 1 → window_refusal s n ≡ 0 → window_refusal u n ≡ 0
      → (a r : ℕ) → HasOnPort s n a r → HasOnPort u n a r
