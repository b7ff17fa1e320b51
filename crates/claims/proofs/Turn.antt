-- Marking one claim after another, in any form of the scratch.
-- Assumes nothing.
use Prim.Native.Nat.{ℕ, ◌+◌, ◌<◌, ◌≤◌}
use mathlib.Core.Bool.{Bool, true, false, ◌&&◌, ◌||◌}
use mathlib.Core.List.{List}
use mathlib.Core.Path.{◌≡◌, refl, sym, ap, ◌∙◌}
use native.Mathlib.Numerals.{add-one}
use native.Mathlib.Omega.{arith}
use lib.ListN.{length, get_or}
use borrow.Author.Count.{below_more}
use borrow.Author.Tests.{lt-ltb, le-ltb}
use Rattle.std.specs.Prelude.{Option, Some, None}
use Rattle.frame.specs.Settings.{has_second_port}
use Rattle.claims.specs.declared.window.ClaimedWindow.{ClaimedWindow}
use Rattle.claims.specs.Claims.{resources_of, ports_more, room_of, is_bad, first_bad, earlier, first_clash, found, marked}
use Rattle.claims.specs.Form.{or_at, FormLaws}
use Rattle.claims.specs.Marking.{Has}
use Rattle.claims.proofs.First.{first_bad_holds, first_found, first_none}
use Rattle.claims.proofs.Marked.{earlier_marked, marked_one, marked_two}

-- Before claim i no claim clashes with an earlier one, and the bytes have the marks of those before i.
pub record Before (laid : (ℕ → Bool) → ℕ → List ℕ) (w : ClaimedWindow) (claims bytes : List ℕ) (i : ℕ) : Type 0 where
  pub apart : (k : ℕ) → k < i → earlier w.window.settings w.window.n claims k (get_or claims k 0) ≡ false
  pub marks : bytes ≡ laid (marked w.window.settings w.window.n claims i) w.marks

-- What the marking answers, and the bytes that it leaves.
pub record Ends (laid : (ℕ → Bool) → ℕ → List ℕ) (w : ClaimedWindow) (claims bytes : List ℕ) (answer : Option ℕ) : Type 0 where
  pub value : answer ≡ found (first_clash w.window.settings w.window.n claims) (length claims)
  pub laid_after : bytes ≡ laid (marked w.window.settings w.window.n claims (first_clash w.window.settings w.window.n claims)) w.marks

module _ (w : ClaimedWindow) where
  -- A claim's marks are among those of the window; t is the offset of its first resource.
  pub inside : (t : ℕ) → t < resources_of w.window.settings w.window.n → t < w.marks
  unfolding room_of
  inside t below = omega (arith, w.resources)

  pub second_inside : (t : ℕ) → t < resources_of w.window.settings w.window.n → w.two ≡ true → t + 1 < w.marks
  unfolding room_of
  second_inside t below two = let more : ports_more w.window.settings ≡ 1 = rw (← w.ports, two) in omega (arith, w.resources, more)

  module _ {room : ℕ → ℕ} {is_marked : List ℕ → ℕ → Bool} {with_mark : List ℕ → ℕ → List ℕ} {laid : (ℕ → Bool) → ℕ → List ℕ}
      (laws : FormLaws room is_marked with_mark laid) (claims bytes : List ℕ) (i : ℕ) (before : Before laid w claims bytes i) where
    pub ended : length claims ≤ i → i ≤ length claims → Ends laid w claims bytes None
    unfolding first_clash
    ended end most =
        let e : i ≡ first_clash w.window.settings w.window.n claims = first_none _ _ _ before.apart most end in
        record { value = rw (← e, le-ltb i (length claims) end); laid_after = rw (← e) before.marks }

    module _ (good : length claims ≤ first_bad w.window.settings w.window.n claims) (here : i < length claims) (t : ℕ) (below : t < resources_of w.window.settings w.window.n)
        (resource : is_bad w.window.settings w.window.n (get_or claims i 0) ≡ false → Has w.window.settings w.window.n (get_or claims i 0) (t + w.window.settings.n1)) where
      has : Has w.window.settings w.window.n (get_or claims i 0) (t + w.window.settings.n1)
      has = resource ((first_bad_holds w.window.settings w.window.n claims).before i (omega arith) (omega arith))

      -- The claim clashes with an earlier one exactly where one of its marks is set.
      reads : earlier w.window.settings w.window.n claims i (get_or claims i 0) ≡ (is_marked bytes t || (w.two && is_marked bytes (t + 1)))
      reads =
          earlier_marked w.window.settings w.window.n claims (get_or claims i 0) t has i
          ∙ rw (before.marks, laws.read test w.marks t (inside t below), w.ports) (ap (λ b. test t || b) (go (has_second_port w.window.settings) (w.ports)))
        where
          test : ℕ → Bool
          test = marked w.window.settings w.window.n claims i

          go : (two : Bool) → w.two ≡ two → (two && test (t + 1)) ≡ (two && is_marked (laid test w.marks) (t + 1))
          go true two = sym (laws.read test w.marks (t + 1) (second_inside t below two))
          go false two = refl

      pub clashed : (is_marked bytes t || (w.two && is_marked bytes (t + 1))) ≡ true → Ends laid w claims bytes (Some i)
      unfolding first_clash
      clashed is =
          let e : i ≡ first_clash w.window.settings w.window.n claims = first_found _ _ _ before.apart here (reads ∙ is) in
          record { value = rw (← e, lt-ltb i (length claims) here); laid_after = rw (← e) before.marks }

      module _ (unset : (is_marked bytes t || (w.two && is_marked bytes (t + 1))) ≡ false) where
        pub turned_one : w.two ≡ false → Before laid w claims (with_mark bytes t) (i + 1)
        turned_one one =
            record {
              apart = below_more _ _ before.apart (reads ∙ unset);
              marks =
                  rw (before.marks, laws.marked (marked w.window.settings w.window.n claims i) w.marks t (inside t below), add-one)
                  (ap (λ (test : ℕ → Bool). laid test w.marks) (marked_one w.window.settings w.window.n claims i t has (sym w.ports ∙ one)));
            }

        pub turned_two : w.two ≡ true → Before laid w claims (with_mark (with_mark bytes t) (t + 1)) (i + 1)
        turned_two two =
            record {
              apart = below_more _ _ before.apart (reads ∙ unset);
              marks =
                  rw (
                    before.marks,
                    laws.marked (marked w.window.settings w.window.n claims i) w.marks t (inside t below),
                    laws.marked (or_at (marked w.window.settings w.window.n claims i) t) w.marks (t + 1) (second_inside t below two),
                    add-one i,
                  )
                  (ap (λ (test : ℕ → Bool). laid test w.marks) (marked_two w.window.settings w.window.n claims i t has (sym w.ports ∙ two)));
            }
