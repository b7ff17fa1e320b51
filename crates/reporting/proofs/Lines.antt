-- The lines fit on a `Line`, and are what the parts put on one come to. Assumes nothing.
use Rattle.std.proofs.Common.{ℕ, ◌<◌, ◌≤◌, ◌≡◌, Option, Some, None, [], ◌∷◌, ◌++◌, length, length-append, arith, refl, sym, codes, decimal}
use Rattle.std.proofs.lemmas.List.{append-nil}
use borrow.Author.Tests.{ne_eqb}
use Rattle.line.proofs.Adding.{added_alone, five_digits}
use Rattle.line.specs.Line.{added}
use Rattle.reply.specs.declared.ReplyKind.{ReplyKind}
use Rattle.reply.specs.declared.ReplyKind.TheVariants.{Bundled, Multiplexed}
use Rattle.reporting.specs.Text.{kind_text, sent_text, line_text, refusal_text}

kind_most : (kind : ReplyKind) → length (kind_text kind) ≤ 11
unfolding kind_text
kind_most Bundled = omega arith
kind_most Multiplexed = omega arith

sent_most : (kind : Option ReplyKind) (resource b0 b1 : ℕ) → resource < 65536 → b0 < 65536 → b1 < 65536 → length (sent_text kind resource b0 b1) ≤ 50
unfolding sent_text
sent_most None resource b0 b1 hr h0 h1 = omega arith
sent_most (Some kind) resource b0 b1 hr h0 h1 =
    simp length-append (omega (arith, kind_most kind, five_digits resource (omega (arith, hr)), five_digits b0 (omega (arith, h0)), five_digits b1 (omega (arith, h1))))

-- What was sent where it is a reply, part by part.
pub reply_sent : (sent : Option ReplyKind) (kind : ReplyKind) (resource b0 b1 : ℕ) → sent ≡ Some kind
    → sent_text sent resource b0 b1
    ≡ kind_text kind ++ (codes ", resource " ++ decimal resource) ++ (codes ", bits " ++ decimal b0) ++ (codes " " ++ decimal b1)
unfolding sent_text
reply_sent sent kind resource b0 b1 e = rw e refl

-- A window's line has room.
pub line_alone : (frame n : ℕ) (kind : Option ReplyKind) (resource b0 b1 : ℕ) → frame < 65536 → n < 256 → resource < 65536 → b0 < 256 → b1 < 256
    → added [] (line_text frame n kind resource b0 b1) ≡ line_text frame n kind resource b0 b1
unfolding line_text
line_alone frame n kind resource b0 b1 hf hn hr h0 h1 =
    added_alone (line_text frame n kind resource b0 b1)
    (simp length-append
    (omega (arith, five_digits frame (omega (arith, hf)), five_digits n (omega (arith, hn)), sent_most kind resource b0 b1 hr (omega arith) (omega arith))))

-- No refusal has no line.
pub no_refusal : (at : Option ℕ) → refusal_text 0 at ≡ []
unfolding refusal_text
no_refusal at = refl

-- A refusal's line, with a record's number or without, has room.
module _ (refusal : ℕ) (some : refusal ≡ 0 → ⊥) (hr : refusal < 65536) where
  pub refused : refusal_text refusal None ≡ added [] ((codes "refused " ++ decimal refusal) ++ 10 ∷ [])
  unfolding refusal_text
  refused =
      rw (ne_eqb _ _ some, append-nil (decimal refusal))
      (sym (added_alone ((codes "refused " ++ decimal refusal) ++ 10 ∷ []) (simp length-append (omega (arith, five_digits refusal (omega (arith, hr)))))))

  pub stopped : (number : ℕ) → number < 65536 → refusal_text refusal (Some number)
      ≡ added [] ((codes "refused " ++ decimal refusal) ++ (codes " at record " ++ decimal number) ++ 10 ∷ [])
  unfolding refusal_text
  stopped number hn =
      let text = codes "refused " ++ decimal refusal in
      let more = codes " at record " ++ decimal number in
      rw (ne_eqb _ _ some)
      (sym (added_alone (text ++ more ++ 10 ∷ []) (simp length-append (omega (arith, five_digits refusal (omega (arith, hr)), five_digits number (omega (arith, hn)))))))
