-- What a call with a sent window refuses before it looks at the reply: 1 to 6, 17, 19, 24 and 7, then 20, 10, 11, 12 and 18, which are
-- looked for in what was sent. Document 01, "Causes and their numbers": "Lowest number first", which is about the call: over all
-- positions, in the order that the later papers give.
-- Assumes nothing.
use Rattle.std.specs.Prelude.{ℕ, ◌+◌, cond, List, [], ◌∷◌, map, eqb, ltb}
use Rattle.frame.specs.declared.Settings.{Settings}
use Rattle.frame.specs.Distance.{before}
use Rattle.frame.specs.Settings.{or_else, window_refusal}
use Rattle.frame.specs.Table.{window_of}
use Rattle.heard.specs.Heard.{heard_refusal}
use Rattle.confirmation.specs.declared.Send.{Send}
use Rattle.confirmation.specs.Sent.{is_block, as_heard}
use Rattle.confirming.specs.declared.SentWindow.{SentWindow}
use Rattle.confirming.specs.Records.{sent_in}

-- The place of a refusal in the order: 9, then 20, 10, 11, 12, 18; no refusal comes last.
unfoldable pub rank_of : ℕ → ℕ
rank_of k =
    cond (eqb k 9) 1
    (cond (eqb k 20) 2
    (cond (eqb k 10) 3
    (cond (eqb k 11) 4
    (cond (eqb k 12) 5
    (cond (eqb k 18) 6 7)))))

-- Of two refusals the one that comes first.
unfoldable pub earlier : ℕ → ℕ → ℕ
earlier a b = cond (ltb (rank_of b) (rank_of a)) b a

-- Of a list of refusals the one that comes first; 0 where there is none.
unfoldable pub lowest : List ℕ → ℕ
lowest [] = 0
lowest (k ∷ ks) = earlier k (lowest ks)

-- What was sent k before the reply in subframe n, judged as 01 judges what a station sends: it "is valid if neither 9 to 12 .. nor a
-- refusal of a feed added later would refuse it". Every subframe of a window is downlink, so 9 is never met (specs/Exactly.antt).
abbrev pub refusal_ago : Settings → ℕ → (ℕ → Send) → ℕ → ℕ
refusal_ago s n sent k = heard_refusal s (before n k) (as_heard (sent k))

-- The scheduled blocks that were sent in the subframes of `ks`.
unfoldable pub blocks_sent : (ℕ → Send) → List ℕ → ℕ
blocks_sent sent [] = 0
blocks_sent sent (k ∷ ks) = cond (is_block (sent k)) 1 0 + blocks_sent sent ks

-- 20, 10, 11, 12 and 18 over the whole window; 18 is also "a second scheduled block in one window".
unfoldable pub sent_refusal : Settings → ℕ → List ℕ → (ℕ → Send) → ℕ
sent_refusal s n ks sent = or_else (lowest (map (refusal_ago s n sent) ks)) (cond (ltb 1 (blocks_sent sent ks)) 18 0)

-- All that is refused before the reply is looked at.
unfoldable pub call_refusal : Settings → ℕ → SentWindow → ℕ
call_refusal s n w =
    let ks : List ℕ = window_of s.config n in
    or_else (window_refusal s n) (sent_refusal s n ks (sent_in ks w))
