-- What the readers refuse: what is told of a fault is said of the answer that it is.
use Rattle.std.proofs.Common.{◌≡◌, Some, Err, subst}
use Rattle.mg_text.specs.declared.place.Place.{Place}
use Rattle.scr_read.specs.declared.ScrFault.{ScrFault}
use Rattle.scr_read.specs.declared.ScrFault.TheVariants as protocols
use Rattle.ts_read.specs.declared.fault.TsFault.{TsFault}
use Rattle.ts_read.specs.declared.fault.TsFault.TheVariants as typestates
use Rattle.jv_read.specs.declared.fault.JavaFault.{JavaFault}
use Rattle.jv_read.specs.declared.fault.JavaFault.TheVariants as java
use Rattle.scr_read.specs.Outcome as of_protocols
use Rattle.ts_read.specs.Outcome as of_typestates
use Rattle.jv_read.specs.Outcome as of_java
use Rattle.mg_refusal.specs.Refusals.{Refusal}
use Rattle.mg_refusal.specs.Order.{Answers, IsStopOf, stop_in}
use Rattle.mg_refusal.specs.declared.stop.Stop.{Stop}
use Rattle.mg_refusal.proofs.Orders.{stop_in_file}
use Rattle.mg_sources.specs.Files.{Source, Scribble, Typestates, Java, IsOf}
use Rattle.mg_sources.specs.Reading.{Protocol, IsIn, IsSaidOfProtocol, IsSaidOfTypestate, IsSaidOfJava, Refuses}
use Rattle.mg_sources.specs.Reading as reading

-- ---- what is said stays said where more places may be those of Syntax

module _ (Few Many : Place → Type 0) (go : (place : Place) → Few place → Many place) where
  protocol_said : (a : of_protocols.Answer) (r : Refusal) → IsSaidOfProtocol Few a r → IsSaidOfProtocol Many a r
  protocol_said (of_protocols.Protocol local) r h = h
  protocol_said (of_protocols.TooLarge place) r h = h
  protocol_said (of_protocols.BadByte place) r h = h
  protocol_said (of_protocols.Unsupported place word) r h = h
  protocol_said of_protocols.Syntax r (place, few, e) = (place, go place few, e)
  protocol_said (of_protocols.Refused condition place name) r h = h

  typestate_said : (a : of_typestates.Answer) (r : Refusal) → IsSaidOfTypestate Few a r → IsSaidOfTypestate Many a r
  typestate_said (of_typestates.Read typestate) r h = h
  typestate_said (of_typestates.TooLarge place) r h = h
  typestate_said (of_typestates.BadByte place) r h = h
  typestate_said of_typestates.Syntax r (place, few, e) = (place, go place few, e)
  typestate_said (of_typestates.Refused condition place name) r h = h

  java_said : (a : of_java.Answer) (r : Refusal) → IsSaidOfJava Few a r → IsSaidOfJava Many a r
  java_said (of_java.Read file) r h = h
  java_said (of_java.TooLarge place) r h = h
  java_said (of_java.BadByte place) r h = h
  java_said (of_java.OpenComment place) r h = h
  java_said (of_java.OpenText place) r h = h
  java_said (of_java.BadEscape place) r h = h
  java_said (of_java.BadNumber place) r h = h
  java_said (of_java.Unsupported place text) r h = h
  java_said of_java.Syntax r (place, few, e) = (place, go place few, e)

-- ---- a fault is a refusal of the file

module _ (s : Source) where
  pub protocol_refused : {A : Type 0} (Right : A → Type 0) (fault : ScrFault) (stop : Stop) → IsOf Scribble s →
      of_protocols.HasPlace s.number s.bytes fault →
      ((a : of_protocols.Answer) → of_protocols.fault_answer fault ≡ Some a → of_protocols.Outcome s.number s.bytes a) →
      IsStopOf (IsSaidOfProtocol (λ place. fault ≡ protocols.Syntax place)) (of_protocols.fault_answer fault) stop →
      Answers Right (Refuses s) (Err (stop_in s.number stop))
  protocol_refused Right fault stop is placed answered h =
      let within : (place : Place) → fault ≡ protocols.Syntax place → IsIn s place
      = λ place e. subst (of_protocols.HasPlace s.number s.bytes) e placed in
      stop_in_file s.number (IsSaidOfProtocol (λ place. fault ≡ protocols.Syntax place)) Right (Refuses s) (of_protocols.fault_answer fault)
      stop h
      (λ a r e said. reading.protocol a is (answered a e)
      (said.0, protocol_said (λ place. fault ≡ protocols.Syntax place) (IsIn s) within a said.0 said.1, said.2))

  pub states_refused : {A : Type 0} (Right : A → Type 0) (fault : TsFault) (stop : Stop) → IsOf Typestates s →
      of_typestates.HasPlace s.number s.bytes fault →
      ((a : of_typestates.Answer) → of_typestates.answer_of (Err fault) ≡ Some a → of_typestates.Outcome s.number s.bytes a) →
      IsStopOf (IsSaidOfTypestate (λ place. fault ≡ typestates.Syntax place)) (of_typestates.answer_of (Err fault)) stop →
      Answers Right (Refuses s) (Err (stop_in s.number stop))
  states_refused Right fault stop is placed answered h =
      let within : (place : Place) → fault ≡ typestates.Syntax place → IsIn s place
      = λ place e. subst (of_typestates.HasPlace s.number s.bytes) e placed in
      stop_in_file s.number (IsSaidOfTypestate (λ place. fault ≡ typestates.Syntax place)) Right (Refuses s)
      (of_typestates.answer_of (Err fault)) stop h
      (λ a r e said. reading.states a is (answered a e)
      (said.0, typestate_said (λ place. fault ≡ typestates.Syntax place) (IsIn s) within a said.0 said.1, said.2))

  pub classes_refused : {A : Type 0} (Right : A → Type 0) (fault : JavaFault) (stop : Stop) → IsOf Java s →
      of_java.HasPlace s.number s.bytes fault →
      ((a : of_java.Answer) → of_java.fault_answer fault ≡ Some a → of_java.Outcome s.number s.bytes a) →
      IsStopOf (IsSaidOfJava (λ place. fault ≡ java.Syntax place)) (of_java.fault_answer fault) stop →
      Answers Right (Refuses s) (Err (stop_in s.number stop))
  classes_refused Right fault stop is placed answered h =
      let within : (place : Place) → fault ≡ java.Syntax place → IsIn s place
      = λ place e. subst (of_java.HasPlace s.number s.bytes) e placed in
      stop_in_file s.number (IsSaidOfJava (λ place. fault ≡ java.Syntax place)) Right (Refuses s) (of_java.fault_answer fault) stop h
      (λ a r e said. reading.classes a is (answered a e)
      (said.0, java_said (λ place. fault ≡ java.Syntax place) (IsIn s) within a said.0 said.1, said.2))
