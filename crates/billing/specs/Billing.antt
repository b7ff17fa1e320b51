-- What is charged was decoded: document 02, U10, in the runs of demand 3 (document 01), changes of mode among them. A station that
-- bills by `credit` gives it the records of what it sent in the window and the reply that came; what the handset heard it does not know.
-- The statement is about an engine and a crediting call, so that wrong ones can be refuted (proofs/WrongBills.antt); proofs/Billed.antt
-- proves it of the engine of this repository and of credit_of, the definition that the promise of credit::credit is an equation with.
-- Assumes nothing.
use Rattle.std.specs.Prelude.{ℕ, ◌+◌, ◌*◌, ◌%◌, ◌<◌, ◌≤◌, Bool, true, List, [], ◌∷◌, ◌⊎◌, ◌↔◌, ◌≡◌, length, get_or}
use Rattle.frame.specs.declared.Settings.{Settings}
use Rattle.frame.specs.Settings.{or_else}
use Rattle.confirmation.specs.declared.Send.{Send}
use Rattle.confirming.specs.declared.SentWindow.{SentWindow}
use Rattle.confirming.specs.Records.{send_of, record_at}
use Rattle.reply.specs.declared.Reply.{Reply}
use Rattle.account.specs.declared.Account.{Account}
use Rattle.account.specs.Account.{account_refusal}
use Rattle.account.specs.Credits.{Credited, from_new, Charged}
use Rattle.account.specs.Laws.{Grown}
use Rattle.credit.specs.Credit.{credited, sizes_refusal, octets_where}
use Rattle.agreement.specs.Confirmation.{Replied, reading_at, heard_there, decoded_block}
use Rattle.agreement.specs.Demand3.{Engine}
use Rattle.agreement.specs.Run.{Item, sent_ago, window_at, settings_in}

-- A crediting call: settings, n, the sent window, the reply's resource and bits, and the account.
abbrev pub Crediting : Type 0
Crediting = Settings → ℕ → SentWindow → ℕ → ℕ → ℕ → Account → Credited

-- The records say what the schedule sent in the window of s, heard or lost. Of the sizes they may say anything.
abbrev pub SaysSent : Settings → (ℕ → Send) → ℕ → SentWindow → Type 0
SaysSent set sent s w =
    (m : ℕ) → m < length (window_at set s)
    → send_of (record_at (length (window_at set s)) w m) ≡ sent_ago sent s (get_or (window_at set s) m 0)

-- What a station brings to be billed: a reply of a run of demand 3, with the records of its window. Which of the things sent were heard,
-- and decoded, is open.
pub record Billable (e : Engine) : Type 0 where
  pub set : Settings
  pub sent : ℕ → Send
  pub items : List Item
  pub s : ℕ
  pub r : Reply
  pub w : SentWindow
  pub replied : Replied e set sent items s r
  pub says : SaysSent set sent s w

module _ {e : Engine} (b : Billable e) where
  -- Its positions.
  abbrev pub size : ℕ
  size = length (window_at b.set b.s)

  -- "The station is told the mode per window" (U8): the call is given the settings in the window's own mode, n = s mod 10, and the
  -- reply's own resource and bits.
  abbrev pub credit_at : Crediting → Account → Credited
  credit_at credit =
      credit (settings_in b.set b.items b.s) (b.s % 10) b.w b.r.resource.0 b.r.b0 b.r.b1

  -- The blocks that 02 credits, by what was sent and the station's reading of the reply.
  abbrev pub credited_there : ℕ → ℕ → Bool
  credited_there = credited (window_at b.set b.s) (sent_ago b.sent b.s) (reading_at e b.set b.sent b.items b.s b.r)

  -- The blocks that the handset heard and decoded.
  abbrev pub decoded_there : ℕ → ℕ → Bool
  decoded_there m block = decoded_block (heard_there b.set b.items b.s m) block

  -- The octets of such blocks, by the sizes in the records.
  abbrev pub octets_there : (ℕ → ℕ → Bool) → ℕ
  octets_there = octets_where b.set.config (b.s % 10) b.w

  -- What is off before the reply is read: "a size index or width of any block sent in the window, or a price, out of range, or an
  -- account off that equation or its carry's bound"; 0 where nothing is.
  abbrev pub off : Account → ℕ
  off a = or_else (sizes_refusal size b.w) (account_refusal a)

  -- What is answered for it on the account `a`.
  pub record Bill (a : Account) (c : Credited) : Type 0 where
    -- a truthful station is refused neither for what it sent nor for the reply that came: 25 is met exactly if a size or the account is
    -- off,
    pub twenty_five : (c.refusal ≡ 25) ↔ (off a ≡ 0 → ⊥)
    -- 26, "after 25", exactly if "a total .. would pass 1,000,000,000,000 octets",
    pub twenty_six : (c.refusal ≡ 26) ↔ ((off a ≡ 0) × (1000000000000 < a.octets + octets_there credited_there))
    -- and nothing else is
    pub no_other : (c.refusal ≡ 0) ⊎ (c.refusal ≡ 25) ⊎ (c.refusal ≡ 26)
    -- the octets are those of exactly the blocks that 02 credits
    pub octets : c.refusal ≡ 0 → c.octets ≡ octets_there credited_there
    -- each of which was decoded by the handset
    pub decoded : (m block : ℕ) → credited_there m block ≡ true → decoded_there m block ≡ true
    -- in numbers: no more octets are answered than were decoded, refused or not
    pub most : c.octets ≤ octets_there decoded_there
    -- they are added to the account, at the same price, and 25 does not refuse it; a refusal comes "with nothing credited"
    pub grown : c.refusal ≡ 0 → Grown a c.octets c.account
    pub left : (c.refusal ≡ 0 → ⊥) → (c.octets ≡ 0) × (c.account ≡ a)

-- The same with the call first, for the law over any list of credits (account/specs/Credits.antt).
abbrev pub answered : {e : Engine} → Crediting → Billable e → Account → Credited
answered credit b a = credit_at b credit a

-- The octets that were decoded in the windows of a list.
abbrev pub decoded_in : {e : Engine} → List (Billable e) → ℕ
decoded_in [] = 0
decoded_in (b ∷ bs) = octets_there b (decoded_there b) + decoded_in bs

-- The account after the credits of a list, from a new one. A reply that stands in the list twice counts twice, on either side.
pub record BilledOver (e : Engine) (credit : Crediting) (price : ℕ) (bs : List (Billable e)) : Type 0 where
  -- "octets × price = 1,000,000 × charged + carry, the carry below 1,000,000 and the octets those of the list's credits not refused"
  pub charged : Charged (answered credit) price bs
  -- the octets are no more than were decoded, and the coins no more than these cost
  pub octets : (from_new (answered credit) price bs).octets ≤ decoded_in bs
  pub coins : 1000000 * (from_new (answered credit) price bs).charged ≤ decoded_in bs * price

pub record Billed (e : Engine) (credit : Crediting) : Type 0 where
  pub each : (b : Billable e) (a : Account) → Bill b a (credit_at b credit a)
  -- "Over any list of credits from a new account": of any windows, cells and handsets
  pub list : (price : ℕ) → price ≤ 1000000 → (bs : List (Billable e)) → BilledOver e credit price bs
