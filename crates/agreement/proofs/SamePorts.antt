-- Document 02, U9, moved nothing for a handset of one antenna port: its settings and changes of mode are refused as before, and it has no
-- second resource. That its claims are checked as before is `OnePort` of claims/specs/OnPorts.antt.
-- Assumes nothing.
use Rattle.std.proofs.Common.{None, Result, Ok, Err}
use Rattle.resource.specs.declared.ports.OnPorts.{OnPorts}
use Rattle.resource.specs.declared.Resource.{Resource}
use Prim.Native.Nat.{ℕ}
use mathlib.Core.Path.{◌≡◌, refl, ◌∙◌}
use Rattle.frame.specs.declared.Settings.{Settings}
use Rattle.frame.specs.Settings.{or_else, cell_refusal, mode_refusal, blocks_refusal, scheduled_refusal, settings_refusal, new_mode_refusal, in_mode}
use Rattle.frame.specs.Special.{special_refusal}
use Rattle.frame.proofs.OnePort.{settings_same, change_same}
use Rattle.resource.specs.Calls.{resource_of}
use Rattle.resource.specs.Ports.{on_ports, ports_of}
use Rattle.resource.proofs.SecondPort.{port_none}
use Rattle.heard.specs.declared.View.{View}
use Rattle.reply.specs.declared.Answer.TheVariants.{Sent}
use Rattle.reply.specs.declared.Reply.{Reply}
use Rattle.reply.specs.Replies.{window_answer}
use Rattle.reply.proofs.Ports.{second_carried}

-- The resource call's answer with no second resource.
abbrev first_alone : Result Resource ℕ → Result OnPorts ℕ
first_alone (Ok r) = Ok (record { first = r; second = None })
first_alone (Err k) = Err k

pub record SamePorts (s : Settings) : Type 0 where
  -- 1 to 6, 17 and 19
  pub settings : settings_refusal s
      ≡ or_else (cell_refusal s) (or_else (mode_refusal s) (or_else (blocks_refusal s) (or_else (scheduled_refusal s) (special_refusal s))))
  -- 4 and 5
  pub change : (m : ℕ) → new_mode_refusal (in_mode s m) ≡ mode_refusal (in_mode s m)
  -- the resource call, and the answer of every window, whatever was heard in it
  pub resource : (n m c : ℕ) → ports_of s n m c ≡ first_alone (resource_of s n m c)
  pub reply : (n : ℕ) (view : ℕ → View) (r : Reply) → window_answer s n view ≡ Sent r → r.second ≡ None

module _ (s : Settings) (one : s.ports ≡ 1) where
  first_alone_holds : (x : Result Resource ℕ) → on_ports s x ≡ first_alone x
  first_alone_holds (Ok r) = rw (port_none s r.0 one)
  first_alone_holds (Err k) = refl

  pub same_ports : SamePorts s
  unfolding ports_of
  same_ports =
      record {
        settings = settings_same s one;
        change = λ m. change_same (in_mode s m) one;
        resource = λ n m c. first_alone_holds (resource_of s n m c);
        reply = λ n view r e. second_carried s n view r e ∙ port_none s r.resource.0 one;
      }
