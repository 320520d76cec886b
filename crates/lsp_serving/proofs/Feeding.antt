-- Serving, read by read.
use Rattle.std.proofs.Common.{◌≡◌, ◌≢◌, ℕ, List, [], ◌++◌, Bool, true, false, Option, refl, subst, arith}
use Rattle.std.specs.Prelude.{Ok, Err}
use Rattle.std.specs.Io.KnownBytes.{Consumes}
use Rattle.std.proofs.lemmas.List.{append-nil}
use Rattle.mg_io.specs.Outside.{appended}
use Rattle.lsp_frames.specs.Reading.{wants}
use Rattle.lsp_server.specs.declared.session.Session.{Session}
use Rattle.lsp_server.specs.Turns.{Folders}
use Rattle.lsp_serving.specs.declared.ending.Ending.{Ending}
use Rattle.lsp_serving.specs.declared.ending.Ending.TheVariants.{Exit, Input, NoFrame, Unread, Unwritten, Memory}
use Rattle.lsp_serving.specs.Speaking.{spoken}
use Rattle.lsp_serving.specs.Endings.{GoesOn, IsPart, IsPut, EndsSo, Ends, IsServedFrom}
use Rattle.lsp_serving.specs.inner.Passing.{Fed, Passes, SoFar}
use Rattle.lsp_serving.proofs.Joins.{consumes_nil, consumes_join, frames_fed}
use Rattle.lsp_serving.proofs.Passes.{still, lacks, passes_join, ends_join}

-- no bytes may become a frame
pub nothing_is_part : IsPart []
nothing_is_part = record {
  fields = [];
  after = [];
  cut = wants;
  spells = refl;
  are = tt;
  one = omega arith;
  within = omega arith;
  cuts = (tt, omega arith);
  ends = refl;
}

module _ (folders : Folders) (start : Session) where
  -- behind bytes that came no turn is taken
  fed : (came piece rest : List ℕ) (before after : Option (List ℕ)) (session : Session) →
      Passes folders start came before session rest after →
      Passes folders start (came ++ piece) before session (rest ++ piece) after
  fed came piece rest before after session p = record {
    bodies = p.bodies;
    told = p.told;
    frames = frames_fed came rest piece p.bodies p.frames;
    serves = p.serves;
    put = p.put;
    goes = p.goes;
  }

  -- it ends without another turn
  ends_there : (came rest : List ℕ) (before after : Option (List ℕ)) (session : Session) (ending : Ending) →
      ((bytes : List ℕ) (old new : Option (List ℕ)) → new ≡ appended bytes old → IsPut ending bytes old new) →
      EndsSo ending session rest → Passes folders start came before session rest after → Ends folders start came before after ending
  ends_there came rest before after session ending all so p = record {
    bodies = p.bodies;
    told = p.told;
    rest = rest;
    end = session;
    frames = p.frames;
    serves = p.serves;
    put = all (spoken p.told) before after p.put;
    ends = so;
  }

  module _ (left before : Option (List ℕ)) where
    -- before anything came
    pub begun : GoesOn start → SoFar folders start left left before start [] before
    begun goes = record {
      came = [];
      read = consumes_nil left;
      passes = still folders start [] before goes;
      part = nothing_is_part;
    }

    -- where memory is wanted before anything comes
    pub lacks_at_once : GoesOn start → IsServedFrom folders start left left before before Memory
    lacks_at_once goes = record {
      came = [];
      read = consumes_nil left;
      ends = lacks folders start [] before goes;
      whole = λ is. absurd (let no : ⊥ = cc in no);
    }

    module _ (mid : Option (List ℕ)) (session : Session) (rest : List ℕ) (after : Option (List ℕ))
        (so_far : SoFar folders start left mid before session rest after) where
      read_on : (right : Option (List ℕ)) (piece : List ℕ) → Consumes mid right piece → Consumes left right (so_far.came ++ piece)
      read_on right piece c = consumes_join left mid right so_far.came piece so_far.read c

      read_none : (right : Option (List ℕ)) → Consumes mid right [] → Consumes left right so_far.came
      read_none right c = subst (λ (bs : List ℕ). Consumes left right bs) (append-nil so_far.came) (read_on right [] c)

      module _ (right : Option (List ℕ)) (fresh : List ℕ) where
        -- bytes came, and frames were served
        pub goes_on : (more : Bool) → more ≡ true → Fed mid right rest fresh (Ok more) →
            (new : Session) (behind : List ℕ) (put : Option (List ℕ)) →
            Passes folders session fresh after new behind put → IsPart behind → SoFar folders start left right before new behind put
        goes_on true is (piece, c, e) new behind put passes part = record {
          came = so_far.came ++ piece;
          read = read_on right piece c;
          passes = passes_join folders start session new (so_far.came ++ piece) (rest ++ piece) behind before after put
              (fed so_far.came piece rest before after session so_far.passes)
              (subst (λ (bs : List ℕ). Passes folders session bs after new behind put) e passes);
          part = part;
        }
        goes_on false is fed new behind put passes part = absurd (let no : ⊥ = cc in no)

        -- bytes came, and it ended by what they say
        pub ends_by_turn : (more : Bool) → more ≡ true → Fed mid right rest fresh (Ok more) → (put : Option (List ℕ)) (ending : Ending) →
            Ends folders session fresh after put ending → ending ≢ Input → IsServedFrom folders start left right before put ending
        ends_by_turn true is (piece, c, e) put ending ends not = record {
          came = so_far.came ++ piece;
          read = read_on right piece c;
          ends = ends_join folders start session (so_far.came ++ piece) (rest ++ piece) before after put ending
              (fed so_far.came piece rest before after session so_far.passes)
              (subst (λ (bs : List ℕ). Ends folders session bs after put ending) e ends);
          whole = λ is. absurd (not is);
        }
        ends_by_turn false is fed put ending ends not = absurd (let no : ⊥ = cc in no)

        -- the input is at its end
        pub ends_at_end : (more : Bool) → more ≡ false → Fed mid right rest fresh (Ok more) →
            IsServedFrom folders start left right before after Input
        ends_at_end true is fed = absurd (let no : ⊥ = cc in no)
        ends_at_end false is (e, c, end) = record {
          came = so_far.came;
          read = read_none right c;
          ends = ends_there so_far.came rest before after session Input (λ bytes old new is. is)
              (so_far.passes.goes, so_far.part) so_far.passes;
          whole = λ is. end;
        }

        -- nothing could be read, or kept
        pub ends_by_feed : (ending : Ending) → Fed mid right rest fresh (Err ending) →
            IsServedFrom folders start left right before after ending
        ends_by_feed Unread (e, c) = record {
          came = so_far.came;
          read = read_none right c;
          ends = ends_there so_far.came rest before after session Unread (λ bytes old new is. is)
              (so_far.passes.goes, so_far.part) so_far.passes;
          whole = λ is. absurd (let no : ⊥ = cc in no);
        }
        ends_by_feed Memory (e, (piece, c)) = record {
          came = so_far.came ++ piece;
          read = read_on right piece c;
          ends = ends_there (so_far.came ++ piece) (rest ++ piece) before after session Memory (λ bytes old new is. is) so_far.passes.goes
              (fed so_far.came piece rest before after session so_far.passes);
          whole = λ is. absurd (let no : ⊥ = cc in no);
        }
        ends_by_feed (Exit clean) h = absurd h
        ends_by_feed Input h = absurd h
        ends_by_feed NoFrame h = absurd h
        ends_by_feed Unwritten h = absurd h

      -- no more reads are made
      pub ends_late : IsServedFrom folders start left mid before after Unread
      ends_late = record {
        came = so_far.came;
        read = so_far.read;
        ends = ends_there so_far.came rest before after session Unread (λ bytes old new is. is)
            (so_far.passes.goes, so_far.part) so_far.passes;
        whole = λ is. absurd (let no : ⊥ = cc in no);
      }
