-- The C numbers lose nothing, so that answers that look alike from C are the same; and a refusal is told by the kind too.
-- Assumes nothing.
use mathlib.Core.Path.{◌≡◌, refl, sym, ap, ◌∙◌}
use Rattle.registers.specs.Call.{command_of}
use Rattle.numbers.specs.Answers.{answered_answer, made_answer, changed_answer, resource_answer, inverse_answer, reading_answer, claims_answer, fed_answer, silence_answer, record_answer, confirmed_answer, opened_answer, credit_answer, replay_answer, replay_size_answer, write_answer, game_answer, command_answer}
use Rattle.numbers.specs.Back.{window_in, answered_in, made_in, changed_in, mapped_in, inverted_in, reading_in, checked_in, fed_in, explained_in, record_in, AnswersComeBack, Apart, SameNumbers, KindsOfAnswers, confirmed_in, opened_in, credited_in, replayed_in, size_in, written_in, game_in, told_in}
use Rattle.numbers.proofs.WindowKept.{window_back, answered_back}
use Rattle.numbers.proofs.ResourceKept.{resource_back}
use Rattle.numbers.proofs.InverseKept.{inverse_back}
use Rattle.numbers.proofs.ReadingKept.{reading_kept}
use Rattle.numbers.proofs.ClaimsKept.{claims_kept}
use Rattle.numbers.proofs.FeedKept.{feed_kept}
use Rattle.numbers.proofs.SilenceKept.{silence_back, silence_told}
use Rattle.numbers.proofs.CommandKept.{told_back}
use Rattle.numbers.proofs.GameKept.{game_back}
use Rattle.numbers.proofs.SizeKept.{size_back}
use Rattle.numbers.proofs.ReaderKept.{reader_kept, replay_told, writing_told}

pub answers_come_back : AnswersComeBack
answers_come_back =
    record {
      window = window_back;
      answered = answered_back;
      resource = resource_back;
      inverse = inverse_back;
      reading = λ s n t r b0 b1. (reading_kept s n t r b0 b1).0;
      confirmed = λ s n w r b0 b1. refl;
      opened = λ price. refl;
      credit = λ s n w r b0 b1 a. refl;
      claims = λ s n list room lent. (claims_kept s n list room lent).0;
      make = λ s. refl;
      change = λ h mode. refl;
      feed = λ h x. (feed_kept h x).0;
      silence = silence_back;
      reader = λ l i. (reader_kept l i).0;
      replay = λ l room. refl;
      size = size_back;
      writing = λ l room. refl;
      game = game_back;
      command = λ b h. told_back (command_of b h).told;
    }

alike : {A N : Type 0} (numbers : A → N) (back : N → A) {x y : A} → back (numbers x) ≡ x → back (numbers y) ≡ y → Apart numbers x y
alike numbers back bx by e = sym bx ∙ ap back e ∙ by

pub same_numbers : SameNumbers
same_numbers =
    let l : AnswersComeBack = answers_come_back in
    record {
      window = λ s t n n' e. sym (l.window s n) ∙ ap window_in e ∙ l.window t n';
      answered = λ s t d e. alike answered_answer answered_in (l.answered s d) (l.answered t e);
      resource = λ s t n m c n' m' c'. alike resource_answer mapped_in (l.resource s n m c) (l.resource t n' m' c');
      inverse = λ s t n r n' r'. alike inverse_answer inverted_in (l.inverse s n r) (l.inverse t n' r');
      reading = λ s s' n t r b0 b1 n' t' r' c0 c1. alike reading_answer reading_in (l.reading s n t r b0 b1) (l.reading s' n' t' r' c0 c1);
      confirmed = λ s t n n' v w r b0 b1 r' c0 c1. alike confirmed_answer confirmed_in (l.confirmed s n v r b0 b1) (l.confirmed t n' w r' c0 c1);
      opened = λ p q. alike opened_answer opened_in (l.opened p) (l.opened q);
      credit = λ s t n n' v w r b0 b1 r' c0 c1 a b. alike credit_answer credited_in (l.credit s n v r b0 b1 a) (l.credit t n' w r' c0 c1 b);
      claims = λ s t n n' list list' room room' lent lent'. alike claims_answer checked_in (l.claims s n list room lent) (l.claims t n' list' room' lent');
      make = λ s t. alike made_answer made_in (l.make s) (l.make t);
      change = λ h i m n. alike changed_answer changed_in (l.change h m) (l.change i n);
      feed = λ h i x y. alike fed_answer fed_in (l.feed h x) (l.feed i y);
      silence = λ h i x y. alike silence_answer explained_in (l.silence h x) (l.silence i y);
      reader = λ a b i j. alike record_answer record_in (l.reader a i) (l.reader b j);
      replay = λ a b room room'. alike replay_answer replayed_in (l.replay a room) (l.replay b room');
      size = λ a b. alike replay_size_answer size_in (l.size a) (l.size b);
      writing = λ a b room room'. alike write_answer written_in (l.writing a room) (l.writing b room');
      game = λ s g m s' g' m'. alike game_answer game_in (l.game s g m) (l.game s' g' m');
      command = λ b c h i. alike command_answer told_in (l.command b h) (l.command c i);
    }

pub kinds_of_answers : KindsOfAnswers
kinds_of_answers =
    record {
      reading = λ s n t r b0 b1. (reading_kept s n t r b0 b1).1;
      claims = λ s n list room lent. (claims_kept s n list room lent).1;
      feed = λ h x. (feed_kept h x).1;
      silence = silence_told;
      reader = λ l i. (reader_kept l i).1;
      replay = replay_told;
      writing = writing_told;
    }
