-- Crediting delivered octets: document 02, U10. `ks` is K of the window as printed, `sent k` what was sent k subframes before the
-- reply, position m stands for subframe n - k_m; block 0 is the first block or the only one, block 1 the second.
-- Assumes nothing.
use Rattle.std.specs.Prelude.{ℕ, zero, suc, ◌+◌, ◌/◌, Bool, true, false, cond, ◌&&◌, ◌||◌, List, [], ◌∷◌, eqb, ltb, length, get_or, take, Result, Ok, Err}
use Rattle.frame.specs.declared.Settings.{Settings}
use Rattle.frame.specs.declared.refusal.Refusal.{Refusal}
use Rattle.frame.specs.Distance.{before}
use Rattle.frame.specs.Layout.{is_special}
use Rattle.frame.specs.Refusals.{number_of, number_in, refused_or as reading_or}
use Rattle.frame.specs.Settings.{or_else, outside}
use Rattle.frame.specs.Table.{window_of}
use Rattle.station.specs.declared.Reading.{Reading}
use Rattle.station.specs.declared.Reading.TheVariants.{Bundled, Multiplexed}
use Rattle.station.specs.Readings.{read_of}
use Rattle.confirmation.specs.declared.Send.{Send}
use Rattle.confirmation.specs.Confirmed.{confirmed}
use Rattle.confirmation.specs.Sent.{told_of}
use Rattle.confirming.specs.declared.Sent.{Sent}
use Rattle.confirming.specs.declared.SentWindow.{SentWindow}
use Rattle.confirming.specs.Records.{record_at, sent_in}
use Rattle.confirming.specs.Refusals.{call_refusal}
use Rattle.sizes.specs.Table.{block_size, table_column}
use Rattle.account.specs.declared.Account.{Account}
use Rattle.account.specs.Account.{account_refusal, add_of}
use Rattle.account.specs.Credits.{Credited}

-- What a result of the code, which leaves the account `a`, is in these terms.
abbrev pub credited_as : Result ℕ Refusal → Account → Credited
credited_as (Ok octets) a = record { refusal = 0; octets = octets; account = a }
credited_as (Err r) a = record { refusal = number_of r; octets = 0; account = a }

-- A block's own bit is ACK: in a bundled reading bit 0 for the first block, "a sole block being the first", and bit 1 for the second. A
-- multiplexed reading has no bits for blocks: it "credits its positions".
abbrev pub own_bit : Result Reading ℕ → ℕ → Bool
own_bit (Ok (Bundled named b0 b1)) block = cond (eqb block 0) (eqb b0 1) (eqb b1 1)
own_bit (Ok (Multiplexed named positions)) block = true
own_bit (Err k) block = false

-- What a reading credits: of the blocks that it confirms those whose own bit is ACK. Either bit confirms a sole block, whose result
-- stands for both; bit 0 alone credits it. In words: specs/Exactly.antt.
unfoldable pub credited : List ℕ → (ℕ → Send) → Result Reading ℕ → ℕ → ℕ → Bool
credited ks sent read m block = confirmed ks sent read m block && own_bit read block

-- I_TBS and N_PRB of a block of a record.
abbrev pub itbs_of : Sent → ℕ → ℕ
itbs_of x block = cond (eqb block 0) x.itbs0 x.itbs1

abbrev pub nprb_of : Sent → ℕ → ℕ
nprb_of x block = cond (eqb block 0) x.nprb0 x.nprb1

-- "Octets are size / 8"; "In a special subframe the column is max(floor(0.75 × N_PRB), 1)". The block is sent in subframe d.
unfoldable pub octets_of : ℕ → ℕ → Sent → ℕ → ℕ
octets_of config d x block = block_size (itbs_of x block) (table_column (nprb_of x block) (is_special config d)) / 8

-- "a size index or width .. out of range": "I_TBS 0 to 26 and N_PRB 1 to 110".
unfoldable pub bad_size : ℕ → ℕ → Bool
bad_size itbs nprb = ltb 26 itbs || outside 1 110 nprb

-- One of the blocks that a record carries has a bad size; others are not sent.
unfoldable pub bad_record : Sent → Bool
bad_record x = (ltb 0 x.blocks && bad_size x.itbs0 x.nprb0) || (ltb 1 x.blocks && bad_size x.itbs1 x.nprb1)

unfoldable pub bad_records : List Sent → Bool
bad_records [] = false
bad_records (x ∷ xs) = bad_record x || bad_records xs

-- 25: "a size index or width of any block sent in the window", which has `size` positions.
unfoldable pub sizes_refusal : ℕ → SentWindow → ℕ
sizes_refusal size w = cond (bad_records (take size w.at)) 25 0

-- What is refused before the reply is looked at: what every call with a sent window refuses, "25, after 18" for the sizes, the price
-- and the account.
unfoldable pub prior_refusal : Settings → ℕ → SentWindow → Account → ℕ
prior_refusal s n w a = or_else (call_refusal s n w) (or_else (sizes_refusal (length (window_of s.config n)) w) (account_refusal a))

-- The sum of f over the positions below m.
unfoldable pub sum_below : ℕ → (ℕ → ℕ) → ℕ
sum_below zero f = 0
sum_below (suc m) f = sum_below m f + f m

-- The octets of those blocks at position m of the window of n for which the test holds.
unfoldable pub octets_at : ℕ → ℕ → SentWindow → (ℕ → ℕ → Bool) → ℕ → ℕ
octets_at config n w test m =
    let ks : List ℕ = window_of config n in
    let x : Sent = record_at (length ks) w m in
    cond (test m 0) (octets_of config (before n (get_or ks m 0)) x 0) 0 + cond (test m 1) (octets_of config (before n (get_or ks m 0)) x 1) 0

-- The octets of all such blocks of the window.
unfoldable pub octets_where : ℕ → ℕ → SentWindow → (ℕ → ℕ → Bool) → ℕ
octets_where config n w test = sum_below (length (window_of config n)) (octets_at config n w test)

-- The octets that a reading credits.
unfoldable pub credited_octets : ℕ → ℕ → SentWindow → Result Reading ℕ → ℕ
credited_octets config n w read = octets_where config n w (credited (window_of config n) (sent_in (window_of config n) w) read)

-- Octets added to the account; 26, "with nothing credited", where the total would pass the most.
abbrev pub added_of : Account → ℕ → Credited
added_of a octets =
    record { refusal = (add_of a octets).refusal; octets = cond (eqb (add_of a octets).refusal 0) octets 0; account = (add_of a octets).account }

-- A refusal leaves the account.
abbrev pub refused_or : ℕ → Account → Credited → Credited
refused_or zero a r = r
refused_or (suc k) a r = record { refusal = suc k; octets = 0; account = a }

-- The credit of a reading: refused where the reading is, else its octets are added to the account.
unfoldable pub credit_by : ℕ → ℕ → SentWindow → Result Reading ℕ → Account → Credited
credit_by config n w read a = refused_or (number_in read) a (added_of a (credited_octets config n w read))

-- The reading of the reply: what is refused before it, then 13 and 14.
unfoldable pub credit_reading : Settings → ℕ → SentWindow → ℕ → ℕ → ℕ → Account → Result Reading ℕ
credit_reading s n w r b0 b1 a =
    let ks : List ℕ = window_of s.config n in
    reading_or (prior_refusal s n w a) (read_of s n (told_of ks (sent_in ks w)) r b0 b1)

-- The credit for the reply that came on resource r with the bits b0 and b1 to what was sent in the window of n.
unfoldable pub credit_of : Settings → ℕ → SentWindow → ℕ → ℕ → ℕ → Account → Credited
credit_of s n w r b0 b1 a = credit_by s.config n w (credit_reading s n w r b0 b1 a) a
