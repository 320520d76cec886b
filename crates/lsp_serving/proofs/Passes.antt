-- Serving, turn by turn.
use Rattle.std.proofs.Common.{◌≡◌, ◌≢◌, ℕ, ◌<◌, List, [], ◌∷◌, ◌++◌, length, take, Option}
use Rattle.std.proofs.Common.{Some, refl, sym, ap, ◌∙◌, subst, arith, ◌+◌, length-append}
use Rattle.std.specs.Prelude.{Result, Err, MatchOption}
use Rattle.std.proofs.lemmas.List.{append-nil}
use Rattle.mg_io.specs.Outside.{appended}
use Rattle.lsp_messages.specs.declared.outgoing.Outgoing.{Outgoing}
use Rattle.lsp_frames.specs.Fields.{spell}
use Rattle.lsp_frames.specs.Frames.{IsFrame}
use Rattle.lsp_server.specs.declared.session.Session.{Session}
use Rattle.lsp_server.specs.Turns.{Folders}
use Rattle.lsp_server.specs.Turns as turns
use Rattle.lsp_serving.specs.declared.ending.Ending.{Ending}
use Rattle.lsp_serving.specs.declared.ending.Ending.TheVariants.{Exit, Input, NoFrame, Unread, Unwritten, Memory}
use Rattle.lsp_serving.specs.Speaking.{spoken}
use Rattle.lsp_serving.specs.Serving.{body_limit, Serves}
use Rattle.lsp_serving.specs.Endings.{GoesOn, IsPut, Ends}
use Rattle.lsp_serving.specs.inner.Passing.{TurnsBody, IsAnswered, IsCut, Answers, IsStopped, IsExit, Passes}
use Rattle.lsp_serving.proofs.Joins.{appended_nil, put_join, cut_join, frames_behind, serves_join}

-- what is behind a frame is shorter
pub shorter : (bytes body rest : List ℕ) → IsFrame body_limit bytes body rest → length rest < length bytes
shorter bytes body rest f =
    let all : length bytes ≡ length (spell f.fields ++ (13 ∷ 10 ∷ (body ++ rest))) = ap length f.spells in
    let head : length (spell f.fields ++ (13 ∷ 10 ∷ (body ++ rest))) ≡ length (spell f.fields) + length (13 ∷ 10 ∷ (body ++ rest)) =
    length-append (spell f.fields) (13 ∷ 10 ∷ (body ++ rest)) in
    let behind : length (body ++ rest) ≡ length body + length rest = length-append body rest in omega (arith, all, head, behind)

module _ (folders : Folders) where
  -- nothing is served
  pub still : (session : Session) (bytes : List ℕ) (put : Option (List ℕ)) → GoesOn session →
      Passes folders session bytes put session bytes put
  still session bytes put goes = record {
    bodies = [];
    told = [];
    frames = refl;
    serves = record { messages = []; heard = tt; converses = turns.none };
    put = sym (appended_nil put);
    goes = goes;
  }

  -- one body
  serves_one : (session new : Session) (body : List ℕ) (told : List Outgoing) → GoesOn session → TurnsBody folders session body told new →
      Serves folders session (body ∷ []) (told ++ []) new
  serves_one session new body told goes turn = record {
    messages = turn.message ∷ [];
    heard = (turn.heard, tt);
    converses = turns.more goes turn.turns turns.none;
  }

  put_one : (told : List Outgoing) (before after : Option (List ℕ)) → after ≡ appended (spoken told) before →
      after ≡ appended (spoken (told ++ [])) before
  put_one told before after e = e ∙ ap (λ (ts : List Outgoing). appended (spoken ts) before) (sym (append-nil told))

  pub one_turn : (session new : Session) (bytes body rest : List ℕ) (before after : Option (List ℕ)) → GoesOn session →
      IsFrame body_limit bytes body rest → IsAnswered folders session body new before after → GoesOn new →
      Passes folders session bytes before new rest after
  one_turn session new bytes body rest before after goes frame is on = record {
    bodies = body ∷ [];
    told = is.told ++ [];
    frames = (rest, frame, refl);
    serves = serves_one session new body is.told goes is.turns;
    put = put_one is.told before after is.put;
    goes = on;
  }

  pub exits : (session new : Session) (bytes body rest : List ℕ) (before after : Option (List ℕ)) (ending : Ending) → GoesOn session →
      IsFrame body_limit bytes body rest → IsAnswered folders session body new before after → IsExit new ending →
      Ends folders session bytes before after ending
  exits session new bytes body rest before after ending goes frame is (clean, e, gone) =
      subst (λ (en : Ending). Ends folders session bytes before after en) (sym e) (record {
        bodies = body ∷ [];
        told = is.told ++ [];
        rest = rest;
        end = new;
        frames = (rest, frame, refl);
        serves = serves_one session new body is.told goes is.turns;
        put = put_one is.told before after is.put;
        ends = gone;
      })

  pub cuts : (session new : Session) (bytes body rest : List ℕ) (before after : Option (List ℕ)) → GoesOn session →
      IsFrame body_limit bytes body rest → IsCut folders session body new before after → Ends folders session bytes before after Unwritten
  cuts session new bytes body rest before after goes frame is = record {
    bodies = body ∷ [];
    told = is.told ++ [];
    rest = rest;
    end = new;
    frames = (rest, frame, refl);
    serves = serves_one session new body is.told goes is.turns;
    put = (is.cut, is.put ∙ ap (λ (ts : List Outgoing). appended (take is.cut (spoken ts)) before) (sym (append-nil is.told)));
    ends = tt;
  }

  -- where nothing more is served
  pub lacks : (session : Session) (bytes : List ℕ) (put : Option (List ℕ)) → GoesOn session → Ends folders session bytes put put Memory
  lacks session bytes put goes = record {
    bodies = [];
    told = [];
    rest = bytes;
    end = session;
    frames = refl;
    serves = record { messages = []; heard = tt; converses = turns.none };
    put = sym (appended_nil put);
    ends = goes;
  }

  pub stops : (session : Session) (bytes : List ℕ) (put : Option (List ℕ)) (ending : Ending) → GoesOn session → IsStopped ending bytes →
      Ends folders session bytes put put ending
  stops session bytes put NoFrame goes is = record {
    bodies = [];
    told = [];
    rest = bytes;
    end = session;
    frames = refl;
    serves = record { messages = []; heard = tt; converses = turns.none };
    put = sym (appended_nil put);
    ends = (goes, is);
  }
  stops session bytes put Memory goes is = lacks session bytes put goes
  stops session bytes put (Exit clean) goes is = absurd is
  stops session bytes put Input goes is = absurd is
  stops session bytes put Unread goes is = absurd is
  stops session bytes put Unwritten goes is = absurd is

  pub never_input : (ending : Ending) (bytes : List ℕ) → IsStopped ending bytes → ending ≢ Input
  never_input NoFrame bytes is e = let no : ⊥ = cc in no
  never_input Memory bytes is e = let no : ⊥ = cc in no
  never_input (Exit clean) bytes is e = is
  never_input Input bytes is e = is
  never_input Unread bytes is e = is
  never_input Unwritten bytes is e = is

  -- one part behind another
  pub passes_join : (start mid new : Session) (came left rest : List ℕ) (old between after : Option (List ℕ)) →
      Passes folders start came old mid left between → Passes folders mid left between new rest after →
      Passes folders start came old new rest after
  passes_join start mid new came left rest old between after a b = record {
    bodies = a.bodies ++ b.bodies;
    told = a.told ++ b.told;
    frames = frames_behind came left rest a.bodies b.bodies a.frames b.frames;
    serves = serves_join folders start mid new a.bodies b.bodies a.told b.told a.serves b.serves;
    put = put_join a.told b.told old between after a.put b.put;
    goes = b.goes;
  }

  is_put_join : (one other : List Outgoing) (old mid new : Option (List ℕ)) (ending : Ending) → mid ≡ appended (spoken one) old →
      IsPut ending (spoken other) mid new → IsPut ending (spoken (one ++ other)) old new
  is_put_join one other old mid new Unwritten a (k, b) = cut_join one other old mid new k a b
  is_put_join one other old mid new (Exit clean) a b = put_join one other old mid new a b
  is_put_join one other old mid new Input a b = put_join one other old mid new a b
  is_put_join one other old mid new NoFrame a b = put_join one other old mid new a b
  is_put_join one other old mid new Unread a b = put_join one other old mid new a b
  is_put_join one other old mid new Memory a b = put_join one other old mid new a b

  pub ends_join : (start mid : Session) (came left : List ℕ) (old between after : Option (List ℕ)) (ending : Ending) →
      Passes folders start came old mid left between → Ends folders mid left between after ending → Ends folders start came old after ending
  ends_join start mid came left old between after ending a b = record {
    bodies = a.bodies ++ b.bodies;
    told = a.told ++ b.told;
    rest = b.rest;
    end = b.end;
    frames = frames_behind came left b.rest a.bodies b.bodies a.frames b.frames;
    serves = serves_join folders start mid b.end a.bodies b.bodies a.told b.told a.serves b.serves;
    put = is_put_join a.told b.told old between after ending a.put b.put;
    ends = b.ends;
  }

  -- One turn behind the others.
  module _ (start session : Session) (came rest : List ℕ) (before put : Option (List ℕ))
      (p : Passes folders start came before session rest put) where
    pub ends_unread : (ending : Ending) → IsStopped ending rest → Ends folders start came before put ending × (ending ≢ Input)
    ends_unread ending is = (
      ends_join start session came rest before put put ending p (stops session rest put ending p.goes is),
      never_input ending rest is,
    )

    module _ (new : Session) (body behind : List ℕ) (after : Option (List ℕ)) (frame : IsFrame body_limit rest body behind) where
      pub turn_on : IsAnswered folders session body new put after → GoesOn new → Passes folders start came before new behind after
      turn_on is on = passes_join start session new came rest behind before put after p
          (one_turn session new rest body behind put after p.goes frame is on)

      pub ends_by_exit : IsAnswered folders session body new put after → (ending : Ending) → IsExit new ending →
          Ends folders start came before after ending × (ending ≢ Input)
      ends_by_exit is ending (clean, e, gone) = (
        ends_join start session came rest before put after ending p
            (exits session new rest body behind put after ending p.goes frame is (clean, e, gone)),
        λ input. let no : Exit clean ≡ Input = sym e ∙ input in let never : ⊥ = cc in never,
      )

      pub ends_unput : (ending : Ending) → Answers folders session body new put after (Err ending) →
          Ends folders start came before after ending × (ending ≢ Input)
      ends_unput Unwritten is = (
        ends_join start session came rest before put after Unwritten p (cuts session new rest body behind put after p.goes frame is),
        λ input. let no : ⊥ = cc in no,
      )
      ends_unput Memory e = (
        subst (λ (o : Option (List ℕ)). Ends folders start came before o Memory) (sym e)
            (ends_join start session came rest before put put Memory p (lacks session rest put p.goes)),
        λ input. let no : ⊥ = cc in no,
      )
      ends_unput (Exit clean) is = absurd is
      ends_unput Input is = absurd is
      ends_unput NoFrame is = absurd is
      ends_unput Unread is = absurd is

-- what holds where there is something
pub at_some : {X : Type 0} (o : Option X) (x : X) (P : Type 0) (Q : X → Type 0) → o ≡ Some x → MatchOption o P Q → Q x
at_some o x P Q e h = subst (λ (r : Option _). MatchOption r P Q) e h

-- the same answer, said of the same folders and body
pub answers_at : (one other : Folders) (session : Session) (given body : List ℕ) (new : Session) (put after : Option (List ℕ))
    (r : Result Unit Ending) → one ≡ other → given ≡ body → Answers one session given new put after r →
    Answers other session body new put after r
answers_at one other session given body new put after r f b is =
    subst (λ (bs : List ℕ). Answers other session bs new put after r) b (subst (λ
    (fs : Folders). Answers fs session given new put after r) f is)
