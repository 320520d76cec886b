-- What is served in two parts.
use Rattle.std.proofs.Common.{◌≡◌, ℕ, zero, suc, ◌+◌, List, [], ◌∷◌, ◌++◌, length, take, Option}
use Rattle.std.proofs.Common.{None, Some, refl, sym, ap, ◌∙◌, subst, arith}
use Rattle.std.specs.Io.KnownBytes.{Consumes, Keeps}
use Rattle.std.proofs.lemmas.List.{append-nil, append_assoc}
use Rattle.std.proofs.lemmas.Grind.{flat_map-append}
use Rattle.mg_io.specs.Outside.{appended}
use Rattle.lsp_messages.specs.declared.incoming.Incoming.{Incoming}
use Rattle.lsp_messages.specs.declared.outgoing.Outgoing.{Outgoing}
use Rattle.lsp_frames.specs.Frames.{AreFrames}
use Rattle.lsp_frames.proofs.More.{frames_join}
use Rattle.lsp_server.specs.declared.session.Session.{Session}
use Rattle.lsp_server.specs.Turns.{Folders, Turns, Converses}
use Rattle.lsp_server.specs.Turns as turns
use Rattle.lsp_serving.specs.Hearing.{AreHeard}
use Rattle.lsp_serving.specs.Speaking.{frame_of, spoken}
use Rattle.lsp_serving.specs.Serving.{body_limit, Serves}

-- bytes that are put one after another
pub appended_nil : (o : Option (List ℕ)) → appended [] o ≡ o
appended_nil None = refl
appended_nil (Some xs) = ap (λ (z : List ℕ). Some z) (append-nil xs)

pub appended_join : (xs ys : List ℕ) (o : Option (List ℕ)) → appended ys (appended xs o) ≡ appended (xs ++ ys) o
appended_join xs ys None = refl
appended_join xs ys (Some zs) = ap (λ (z : List ℕ). Some z) (append_assoc zs xs ys)

pub spoken_join : (one other : List Outgoing) → spoken (one ++ other) ≡ spoken one ++ spoken other
spoken_join one other = flat_map-append frame_of one other

pub put_join : (one other : List Outgoing) (old mid new : Option (List ℕ)) → mid ≡ appended (spoken one) old →
    new ≡ appended (spoken other) mid → new ≡ appended (spoken (one ++ other)) old
put_join one other old mid new a b =
    b ∙ (ap (λ (o : Option (List ℕ)). appended (spoken other) o) a ∙ (appended_join (spoken one) (spoken other) old
    ∙ ap (λ (bs : List ℕ). appended bs old) (sym (spoken_join one other))))

take_behind : (xs ys : List ℕ) (k n : ℕ) → n ≡ length xs + k → take n (xs ++ ys) ≡ xs ++ take k ys
take_behind [] ys k n e = ap (λ (m : ℕ). take m ys) (omega (arith, e))
take_behind (x ∷ xs) ys k zero e = absurd (omega (arith, e))
take_behind (x ∷ xs) ys k (suc n) e = ap (λ (z : List ℕ). x ∷ z) (take_behind xs ys k n (omega (arith, e)))

-- where the second part is cut
pub cut_join : (one other : List Outgoing) (old mid new : Option (List ℕ)) (k : ℕ) → mid ≡ appended (spoken one) old →
    new ≡ appended (take k (spoken other)) mid → (n : ℕ) × (new ≡ appended (take n (spoken (one ++ other))) old)
cut_join one other old mid new k a b = (
  length (spoken one) + k,
  b ∙ (ap (λ (o : Option (List ℕ)). appended (take k (spoken other)) o) a ∙ (appended_join (spoken one) (take k (spoken other)) old
      ∙ ap (λ (bs : List ℕ). appended bs old)
      (sym (ap (λ (bs : List ℕ). take (length (spoken one) + k) bs) (spoken_join one other)
      ∙ take_behind (spoken one) (spoken other) k (length (spoken one) + k) refl)))),
)

-- bytes that are read one after another
pub consumes_nil : (o : Option (List ℕ)) → Consumes o o []
consumes_nil None = tt
consumes_nil (Some xs) = refl

pub consumes_kept : (old new : Option (List ℕ)) → Keeps old new → Consumes old new []
consumes_kept None new k = tt
consumes_kept (Some xs) None k = k
consumes_kept (Some xs) (Some ys) k = sym k

pub consumes_join : (old mid new : Option (List ℕ)) (xs ys : List ℕ) → Consumes old mid xs → Consumes mid new ys →
    Consumes old new (xs ++ ys)
consumes_join None mid new xs ys a b = tt
consumes_join (Some bs) None new xs ys a b = absurd a
consumes_join (Some cs) (Some bs) None xs ys a b = b
consumes_join (Some zs) (Some bs) (Some cs) xs ys a b = a ∙ (ap (λ (z : List ℕ). xs ++ z) b ∙ sym (append_assoc xs ys cs))

-- frames that come one after another
pub frames_behind : (bytes left rest : List ℕ) (bodies others : List (List ℕ)) → AreFrames body_limit bytes bodies left →
    AreFrames body_limit left others rest → AreFrames body_limit bytes (bodies ++ others) rest
frames_behind bytes left rest [] others a b = subst (λ (z : List ℕ). AreFrames body_limit z others rest) (sym a) b
frames_behind bytes left rest (body ∷ bodies) others (after, frame, more) b =
    (after, frame, frames_behind after left rest bodies others more b)

-- and more bytes behind them
pub frames_fed : (bytes rest piece : List ℕ) (bodies : List (List ℕ)) → AreFrames body_limit bytes bodies rest →
    AreFrames body_limit (bytes ++ piece) bodies (rest ++ piece)
frames_fed bytes rest piece bodies a =
    subst (λ (bs : List (List ℕ)). AreFrames body_limit (bytes ++ piece) bs (rest ++ piece)) (append-nil bodies)
    (frames_join body_limit bytes piece rest (rest ++ piece) bodies [] a refl)

-- turns that follow each other
converses_join : (folders : Folders) (old mid new : Session) (ms others : List Incoming) (told more : List Outgoing) →
    Converses folders old ms told mid → Converses folders mid others more new → Converses folders old (ms ++ others) (told ++ more) new
converses_join folders old _ new _ others _ more turns.none b = b
converses_join folders old mid new _ others _ more
    (turns.more {between = between} {message = message} {messages = ms} {now = now} {later = later} goes turn rest) b =
    subst (λ (told : List Outgoing). Converses folders old (message ∷ (ms ++ others)) told new) (sym (append_assoc now later more))
    (turns.more goes turn (converses_join folders between mid new ms others later more rest b))

heard_join : (bodies others : List (List ℕ)) (ms more : List Incoming) → AreHeard bodies ms → AreHeard others more →
    AreHeard (bodies ++ others) (ms ++ more)
heard_join [] others [] more a b = b
heard_join [] others (m ∷ ms) more a b = absurd a
heard_join (body ∷ bodies) others [] more a b = absurd a
heard_join (body ∷ bodies) others (m ∷ ms) more (is, are) b = (is, heard_join bodies others ms more are b)

pub serves_join : (folders : Folders) (old mid new : Session) (bodies others : List (List ℕ)) (told more : List Outgoing) →
    Serves folders old bodies told mid → Serves folders mid others more new → Serves folders old (bodies ++ others) (told ++ more) new
serves_join folders old mid new bodies others told more a b = record {
  messages = a.messages ++ b.messages;
  heard = heard_join bodies others a.messages b.messages a.heard b.heard;
  converses = converses_join folders old mid new a.messages b.messages told more a.converses b.converses;
}
