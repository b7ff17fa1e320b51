-- The cases that document 01 wants proved ("Cases to prove"), as one fact about the definitions; its lines in their order, and the case
-- of document 02, U9.
-- Assumes nothing.
use Rattle.std.specs.Prelude.{Result, Ok, Err, Some, None, ℕ, zero, suc, cond, List, [], ◌∷◌, map, ◌≡◌, eqb}
use Rattle.resource.specs.declared.ports.OnPorts.{OnPorts}
use Rattle.resource.specs.declared.Resource.{Resource}
use Rattle.frame.specs.declared.Settings.{Settings}
use Rattle.frame.specs.Distance.{before}
use Rattle.frame.specs.Settings.{no_resource}
use Rattle.frame.specs.Table.{window_of}
use Rattle.resource.specs.Calls.{size_of, resource_of, inverse_of}
use Rattle.resource.specs.Formula.{edge}
use Rattle.resource.specs.Ports.{ports_of}
use Rattle.claims.specs.Bits.{bit_room_of, bit_checked_of}
use Rattle.claims.specs.Claims.{room_of, checked_of}
use Rattle.reply.specs.declared.Answer.TheVariants as answer
use Rattle.heard.specs.declared.Grant.{Grant}
use Rattle.heard.specs.declared.Heard.{Heard}
use Rattle.heard.specs.declared.Heard.TheVariants.{Nothing, Granted}
use Rattle.heard.specs.declared.View.{View}
use Rattle.heard.specs.Heard.{view_of}
use Rattle.reply.specs.Replies.{window_answer}

-- N_0, N_1, .., N_4
abbrev pub edges : ℕ → List ℕ
edges nrb = map (edge nrb) (0 ∷ 1 ∷ 2 ∷ 3 ∷ 4 ∷ [])

-- a cell with N_RB 50 and N1 10, in mode 0, of one block, with no scheduled resource, for handsets of so many antenna ports
abbrev pub cell_of : ℕ → ℕ → Settings
cell_of ports config =
    record { config = config; nrb = 50; n1 = 10; mode = 0; blocks = 1; scheduled = no_resource; prefix = 0; special = 7; ports = ports }

abbrev pub cell : ℕ → Settings
cell = cell_of 1

abbrev pub two_ports : ℕ → Settings
two_ports = cell_of 2

-- the position of a subframe in the window of n, from the table: the first m whose k_m leads to it
abbrev pub subframe_position : ℕ → ℕ → List ℕ → ℕ
subframe_position x n [] = zero
subframe_position x n (k ∷ ks) = cond (eqb (before n k) x) zero (suc (subframe_position x n ks))

abbrev pub at : ℕ → Result Resource ℕ
at r = Ok (record { 0 = r })

-- the resource of a sole port, and those of the first and the second port
abbrev pub on_port : ℕ → Result OnPorts ℕ
on_port r = Ok (record { first = (record { 0 = r }); second = None })

abbrev pub on_ports : ℕ → ℕ → Result OnPorts ℕ
on_ports r second = Ok (record { first = (record { 0 = r }); second = Some (record { 0 = second }) })

-- the claims (0,10) and (1,0), each m × 256 + first CCE
abbrev pub two_claims : List ℕ
two_claims = 10 ∷ 256 ∷ []

-- what a frame's subframes hear: x in 9, y in 3, nothing in the others
abbrev pub heard_in9_and3 : Heard → Heard → ℕ → Heard
heard_in9_and3 x y n = cond (eqb n 9) x (cond (eqb n 3) y Nothing)

-- what a reply in subframe n sees k before it, where `heard` says what each subframe of the frame heard
abbrev pub view_before : ℕ → (ℕ → Heard) → ℕ → View
view_before n heard k = view_of (heard (before n k))

pub record Tabled : Type 0 where
  -- "N_RB 50 gives N = 0, 11, 27, 44, 61."
  pub bandwidth50 : edges 50 ≡ 0 ∷ 11 ∷ 27 ∷ 44 ∷ 61 ∷ []
  -- "With configuration 1, n = 2 (M = 2), N1 10: (m, c) (0,0) is 10; (0,10) is 20; (1,0) is 21; (1,10) is 31; (0,11) is 32;
  -- (1,60) is 131;"
  pub size : size_of (cell 1) 2 ≡ 2
  pub pair00 : resource_of (cell 1) 2 0 0 ≡ at 10
  pub pair010 : resource_of (cell 1) 2 0 10 ≡ at 20
  pub pair10 : resource_of (cell 1) 2 1 0 ≡ at 21
  pub pair110 : resource_of (cell 1) 2 1 10 ≡ at 31
  pub pair011 : resource_of (cell 1) 2 0 11 ≡ at 32
  pub pair160 : resource_of (cell 1) 2 1 60 ≡ at 131
  -- "c 61 is refused 11; resources 9 and 132 are refused 13."
  pub refused61 : (resource_of (cell 1) 2 0 61 ≡ Err 11) × (resource_of (cell 1) 2 1 61 ≡ Err 11)
  pub refused9 : inverse_of (cell 1) 2 9 ≡ Err 13
  pub refused132 : inverse_of (cell 1) 2 132 ≡ Err 13
  -- "N_RB 6 gives 0, 1, 3, 5, 7; N_RB 110 gives 0, 24, 61, 97, 134."
  pub bandwidth6 : edges 6 ≡ 0 ∷ 1 ∷ 3 ∷ 5 ∷ 7 ∷ []
  pub bandwidth110 : edges 110 ≡ 0 ∷ 24 ∷ 61 ∷ 97 ∷ 134 ∷ []
  -- "Configuration 2, n = 7, N_RB 50, N1 10: subframe 3 (m = 2) with c 5 is 37."
  pub position3 : subframe_position 3 7 (window_of 2 7) ≡ 2
  pub subframe3 : resource_of (cell 2) 7 (subframe_position 3 7 (window_of 2 7)) 5 ≡ at 37
  -- "There, in mode 0, DAI 1 heard in 9 and DAI 3 in 3: silent.", whatever blocks the two grants carry and however these decode,
  -- and whatever their first CCEs
  pub silent : (g g' : Grant) → g.dai ≡ 1 → g'.dai ≡ 3
      → window_answer (cell 2) 7 (view_before 7 (heard_in9_and3 (Granted g) (Granted g'))) ≡ answer.Silent
  -- U9: "with N_RB 50, M = 2, N1 10, (0,10) takes 20 and 21, (1,0) 21 and 22": a clash, in both forms of the scratch. With one port they
  -- take 20 and 21 and are clean.
  pub ports010 : ports_of (two_ports 1) 2 0 10 ≡ on_ports 20 21
  pub ports10 : ports_of (two_ports 1) 2 1 0 ≡ on_ports 21 22
  pub ports_room : (room_of (two_ports 1) 2 ≡ 123) × (bit_room_of (two_ports 1) 2 ≡ 16)
  pub ports_clash : (checked_of (two_ports 1) 2 two_claims 123 ≡ Ok (Some 1)) × (bit_checked_of (two_ports 1) 2 two_claims 16 ≡ Ok (Some 1))
  pub one_port : (ports_of (cell 1) 2 0 10 ≡ on_port 20) × (checked_of (cell 1) 2 two_claims 122 ≡ Ok None)
