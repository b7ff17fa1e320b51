-- Claims on numbers: in the cell of document 01's cases with one antenna port by bits (document 02, U6) and with two (U9), and in the
-- widest window.
-- Assumes nothing.
use Rattle.std.proofs.Common.{Ok, Err, Some, None}
use Prim.Native.Nat.{ℕ, ◌+◌, ◌*◌}
use mathlib.Core.List.{List, [], ◌∷◌, ◌++◌}
use mathlib.Core.Path.{◌≡◌, refl}
use lib.ListN.{replicate}
use Rattle.frame.specs.declared.Settings.{Settings}
use Rattle.frame.specs.Settings.{cell_refusal, mode_refusal, blocks_refusal, has_scheduled, scheduled_refusal, has_second_port, ports_mode_refusal, ports_refusal, later_refusal, settings_refusal, no_window_refusal, window_refusal}
use Rattle.frame.specs.Special.{special_refusal}
use Rattle.frame.specs.Table.{table, window_of}
use Rattle.resource.specs.Calls.{pair_refusal, resource_of}
use Rattle.resource.specs.Formula.{edge, region_of, resource_number}
use Rattle.claims.specs.Bits.{bit_room_of, bit_checked_of, bit_marked_up_to, bit_scratch_of}
use Rattle.claims.specs.Claims.{resources_of, room_of, is_bad, first_bad, clashes, first_clash, scratch_refusal, Checked, checked_on, checked_with, checked_of, marked_up_to, scratch_of}

-- A cell in mode 0, of one block, with no scheduled resource, in which special subframes carry data; the last number is that of the
-- antenna ports.
abbrev pub plain : ℕ → ℕ → ℕ → ℕ → Settings
plain config nrb n1 ports =
    record { config = config; nrb = nrb; n1 = n1; mode = 0; blocks = 1; scheduled = 65535; prefix = 0; special = 7; ports = ports }

-- Configuration 1 with N_RB 50 and N1 10: in its window n = 2 M is 2 and N_4 is 61.
abbrev pub cell : Settings
cell = plain 1 50 10 1

-- The claim of position m and first CCE c.
abbrev pub claim_of : ℕ → ℕ → ℕ
claim_of m c = m * 256 + c

-- A scratch with every bit set, of 17 bytes: one more than the window asks for.
abbrev pub dirty : List ℕ
dirty = replicate 17 255

-- What the claims come to: the answer, and the scratch afterwards.
abbrev pub ComesTo : List ℕ → Checked → List ℕ → Type 0
ComesTo claims v new = (bit_checked_of cell 2 claims 17 ≡ v) × (bit_scratch_of cell 2 claims dirty ≡ new)

pub record InTheCell : Type 0 where
  pub rooms : (room_of cell 2 ≡ 122) × (bit_room_of cell 2 ≡ 16)
  -- resources 10, 20 and 21 are offsets 0, 10 and 11: bit 0 of byte 0, bits 2 and 3, which is 12, of byte 1; byte 16 keeps its value
  pub clean : ComesTo (claim_of 0 0 ∷ claim_of 0 10 ∷ claim_of 1 0 ∷ []) (Ok None) (1 ∷ 12 ∷ replicate 14 0 ++ 255 ∷ [])
  -- only the claims before the clash are marked
  pub clash : ComesTo (claim_of 0 0 ∷ claim_of 0 10 ∷ claim_of 0 0 ∷ claim_of 1 0 ∷ []) (Ok (Some 2)) (1 ∷ 4 ∷ replicate 14 0 ++ 255 ∷ [])
  -- resource 131, the last, is offset 121: bit 1 of byte 15, whose six unused bits are 0
  pub last : ComesTo (claim_of 1 60 ∷ []) (Ok None) (replicate 15 0 ++ 2 ∷ 255 ∷ [])
  pub empty : ComesTo [] (Ok None) (replicate 16 0 ++ 255 ∷ [])
  -- CCE 61 is bad, after a clash too, and nothing is written
  pub bad : ComesTo (claim_of 0 5 ∷ claim_of 0 5 ∷ claim_of 0 61 ∷ []) (Err (16, 2)) dirty
  pub short : (bit_checked_of cell 2 [] 15 ≡ Err (15, 0)) × (bit_scratch_of cell 2 [] (replicate 15 255) ≡ replicate 15 255)

pub in_the_cell : InTheCell
unfolding cell_refusal mode_refusal blocks_refusal has_scheduled scheduled_refusal special_refusal has_second_port ports_mode_refusal ports_refusal later_refusal settings_refusal no_window_refusal window_refusal table window_of pair_refusal resource_of edge region_of resource_number bit_room_of bit_marked_up_to bit_scratch_of resources_of room_of is_bad first_bad clashes first_clash scratch_refusal checked_on checked_with
in_the_cell =
    record {
      rooms = (refl, refl);
      clean = (refl, refl);
      clash = (refl, refl);
      last = (refl, refl);
      empty = (refl, refl);
      bad = (refl, refl);
      short = (refl, refl);
    }

-- The same cell with two ports: a claim takes its resource and the next one. The scratch is of 124 bytes, one more than the window asks
-- for, or of 17 for the bits.
abbrev pub two_ports : Settings
two_ports = plain 1 50 10 2

abbrev pub dirty_bytes : List ℕ
dirty_bytes = replicate 124 255

pub record OnTwoPorts : Type 0 where
  pub rooms : (room_of two_ports 2 ≡ 123) × (bit_room_of two_ports 2 ≡ 16)
  -- U9: "(0,10) takes 20 and 21, (1,0) 21 and 22", a clash; offsets 10 and 11 are marked
  pub clash : (checked_of two_ports 2 (claim_of 0 10 ∷ claim_of 1 0 ∷ []) 124 ≡ Ok (Some 1))
      × (scratch_of two_ports 2 (claim_of 0 10 ∷ claim_of 1 0 ∷ []) dirty_bytes ≡ replicate 10 0 ++ 1 ∷ 1 ∷ replicate 111 0 ++ 255 ∷ [])
  pub bit_clash : (bit_checked_of two_ports 2 (claim_of 0 10 ∷ claim_of 1 0 ∷ []) 17 ≡ Ok (Some 1))
      × (bit_scratch_of two_ports 2 (claim_of 0 10 ∷ claim_of 1 0 ∷ []) dirty ≡ 0 ∷ 12 ∷ replicate 14 0 ++ 255 ∷ [])
  -- in the other order too: 21 and 22, then 20 and 21
  pub downward : checked_of two_ports 2 (claim_of 1 0 ∷ claim_of 0 10 ∷ []) 124 ≡ Ok (Some 1)
  -- (0,10) and (1,1), which takes 22 and 23, are clean: bits 2 to 5 of byte 1 are 4 + 8 + 16 + 32
  pub clean : (bit_checked_of two_ports 2 (claim_of 0 10 ∷ claim_of 1 1 ∷ []) 17 ≡ Ok None)
      × (bit_scratch_of two_ports 2 (claim_of 0 10 ∷ claim_of 1 1 ∷ []) dirty ≡ 0 ∷ 60 ∷ replicate 14 0 ++ 255 ∷ [])
  -- the last claim takes 131 and 132: offset 122 is the one resource more
  pub last : (checked_of two_ports 2 (claim_of 1 60 ∷ []) 123 ≡ Ok None)
      × (scratch_of two_ports 2 (claim_of 1 60 ∷ []) dirty_bytes ≡ replicate 121 0 ++ 1 ∷ 1 ∷ 255 ∷ [])
  pub short : (checked_of two_ports 2 [] 122 ≡ Err (15, 0)) × (bit_checked_of two_ports 2 [] 15 ≡ Err (15, 0))
  -- with one port the two are clean
  pub one_port : checked_of cell 2 (claim_of 0 10 ∷ claim_of 1 0 ∷ []) 124 ≡ Ok None

pub on_two_ports_holds : OnTwoPorts
unfolding cell_refusal mode_refusal blocks_refusal has_scheduled scheduled_refusal special_refusal has_second_port ports_mode_refusal ports_refusal later_refusal settings_refusal no_window_refusal window_refusal table window_of pair_refusal resource_of edge region_of resource_number bit_room_of bit_marked_up_to bit_scratch_of resources_of room_of is_bad first_bad clashes first_clash scratch_refusal checked_on checked_with marked_up_to scratch_of
on_two_ports_holds =
    record {
      rooms = (refl, refl);
      clash = (refl, refl);
      bit_clash = (refl, refl);
      downward = refl;
      clean = (refl, refl);
      last = (refl, refl);
      short = (refl, refl);
      one_port = refl;
    }

-- The widest window: configuration 5, n = 2, with N_RB 110. The bit form needs 151 bytes; on these the byte form is refused, so
-- that the two forms do not answer alike where one of them has too little.
pub record InTheWidest : Type 0 where
  pub rooms : (room_of (plain 5 110 0 1) 2 ≡ 1206) × (bit_room_of (plain 5 110 0 1) 2 ≡ 151)
  pub bits : (bit_checked_of (plain 5 110 0 1) 2 [] 151 ≡ Ok None) × (bit_checked_of (plain 5 110 0 1) 2 [] 150 ≡ Err (15, 0))
  pub bytes : checked_of (plain 5 110 0 1) 2 [] 151 ≡ Err (15, 0)
  -- with two ports it has one resource more, and the bits have room for it
  pub two_ports : (room_of (plain 5 110 0 2) 2 ≡ 1207) × (bit_room_of (plain 5 110 0 2) 2 ≡ 151)

pub in_the_widest : InTheWidest
unfolding cell_refusal mode_refusal blocks_refusal has_scheduled scheduled_refusal special_refusal has_second_port ports_mode_refusal ports_refusal later_refusal settings_refusal no_window_refusal window_refusal table window_of edge bit_room_of resources_of room_of first_bad first_clash scratch_refusal checked_on checked_with
in_the_widest = record { rooms = (refl, refl); bits = (refl, refl); bytes = refl; two_ports = (refl, refl) }
