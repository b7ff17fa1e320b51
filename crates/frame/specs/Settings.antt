-- Settings and their refusals: document 01, "Settings" and "Causes and their numbers", 1 to 7; document 02, U1, 17, U2, 19, U8,
-- and U9, 24.
-- Assumes nothing.
use Rattle.std.specs.Prelude.{ℕ, suc, Bool, cond, not, ◌&&◌, ◌||◌, ltb, eqb, length}
use Rattle.frame.specs.declared.Settings.{Settings}
use Rattle.frame.specs.Special.{special_refusal}
use Rattle.frame.specs.Table.{window_of}

-- 01's number range: x is not one of low, low + 1, .., high.
abbrev pub outside : ℕ → ℕ → ℕ → Bool
outside low high x = ltb x low || ltb high x

-- Refusals are tried in their order, and the first one met is answered: `k`, or `next` where k is 0, no refusal.
abbrev pub or_else : ℕ → ℕ → ℕ
or_else ℕ.zero next = next
or_else (suc k) next = suc k

-- 1: configuration over 6. 2: N_RB not 6 to 110. 3: N1 over 2047.
unfoldable pub cell_refusal : Settings → ℕ
cell_refusal s = cond (ltb 6 s.config) 1 (cond (outside 6 110 s.nrb) 2 (cond (ltb 2047 s.n1) 3 0))

-- 4: mode not 0 or 1. 5: mode 1, configuration 5.
unfoldable pub mode_refusal : Settings → ℕ
mode_refusal s = cond (ltb 1 s.mode) 4 (cond (eqb s.mode 1 && eqb s.config 5) 5 0)

-- 6: blocks not 1 or 2.
unfoldable pub blocks_refusal : Settings → ℕ
blocks_refusal s = cond (outside 1 2 s.blocks) 6 0

-- The scheduled resource of a handset for which none is set (U1: "a configured resource").
abbrev pub no_resource : ℕ
no_resource = 65535

-- A scheduled resource is set.
unfoldable pub has_scheduled : Settings → Bool
has_scheduled s = not (eqb s.scheduled no_resource)

-- 17: a scheduled resource not below N1.
unfoldable pub scheduled_refusal : Settings → ℕ
scheduled_refusal s = cond (has_scheduled s && not (ltb s.scheduled s.n1)) 17 0

-- There are two antenna ports: "a new setting says two".
unfoldable pub has_second_port : Settings → Bool
has_second_port s = eqb s.ports 2

-- 24: "two ports with mode 1 (a mode change included)".
unfoldable pub ports_mode_refusal : Settings → ℕ
ports_mode_refusal s = cond (eqb s.mode 1 && has_second_port s) 24 0

-- 24: "a port count not 1 or 2, or two ports with mode 1 .. or with a scheduled resource".
unfoldable pub ports_refusal : Settings → ℕ
ports_refusal s = cond (outside 1 2 s.ports || (has_second_port s && has_scheduled s)) 24 (ports_mode_refusal s)

-- What later papers add to the settings ("A later paper may add settings"), after 6: 17, then 19, then 24.
unfoldable pub later_refusal : Settings → ℕ
later_refusal s = or_else (scheduled_refusal s) (or_else (special_refusal s) (ports_refusal s))

-- Refusals 1 to 6, lowest number first, then those of later papers; 0 if the settings are accepted.
unfoldable pub settings_refusal : Settings → ℕ
settings_refusal s = or_else (cell_refusal s) (or_else (mode_refusal s) (or_else (blocks_refusal s) (later_refusal s)))

-- What a change to the settings' mode is refused for, its other settings being accepted: 4 and 5, then 24 where there are two ports
-- (document 02, U8 and U9).
unfoldable pub new_mode_refusal : Settings → ℕ
new_mode_refusal s = or_else (mode_refusal s) (ports_mode_refusal s)

-- The same settings in another mode: what a change of mode makes of them, and those in which one window is answered and read
-- (document 02, U8).
abbrev pub in_mode : Settings → ℕ → Settings
in_mode s m =
    record {
      config = s.config;
      nrb = s.nrb;
      n1 = s.n1;
      mode = m;
      blocks = s.blocks;
      scheduled = s.scheduled;
      prefix = s.prefix;
      special = s.special;
      ports = s.ports;
    }

-- 7: subframe over 9 or without a window, that is M = 0.
unfoldable pub no_window_refusal : ℕ → ℕ
no_window_refusal size = cond (eqb size 0) 7 0

-- A call for one uplink subframe n refuses the settings, then 7.
unfoldable pub window_refusal : Settings → ℕ → ℕ
window_refusal s n = or_else (settings_refusal s) (no_window_refusal (length (window_of s.config n)))

-- 01's bundled reply is used in mode 0, and in mode 1 where M = 1; else the window is multiplexed.
unfoldable pub bundles : Settings → ℕ → Bool
bundles s size = eqb s.mode 0 || eqb size 1
