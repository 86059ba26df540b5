-- A talk, byte after byte.
use Rattle.std.proofs.Common.{◌≡◌, ℕ, ◌+◌, ◌≤◌, ◌<◌, Bool, List, [], ◌∷◌, ◌++◌, length, take, drop, get_or, append_assoc, Option, Some, None, Result, Ok, Err, refl, ap, sym, ◌∙◌, subst, arith}
use Rattle.std.specs.Result.{IfOk}
use Rattle.std.proofs.lemmas.List.{append-nil, drop_more, take_more, take_all, take-append-drop}
use Rattle.fsim_ports.specs.Sink.{Breaks, Puts, grown}
use Rattle.fsim_ports.specs.declared.outside.Failed.{Failed}
use Rattle.fsim_ports.proofs.Writing.{breaks_first, breaks_second, grown_twice, puts_second}
use Rattle.mono_model.specs.declared.setup.Setup.{Setup}
use Rattle.gdb_packets.specs.Stream.{Stream, acknowledgment, arrival, is_answered, next}
use Rattle.gdb_packets.specs.Receiver.{StandsFor}
use Rattle.gdb_packets.specs.declared.arrival.Arrival.{Arrival}
use Rattle.gdb_packets.specs.declared.place.Place.{Place}
use Rattle.gdb_packets.specs.declared.place.Place.TheVariants as place
use Rattle.gdb_model.specs.Session.{Session}
use Rattle.gdb_model.specs.Talk.{Played, Talk, after_bytes, answered, arrived, taken, talk_text, went_on}
use Rattle.gdb_session.specs.Standing.{SessionStandsFor}
use Rattle.gdb_session.specs.Talk.{TalkStandsFor}
use Rattle.gdb_session.specs.declared.session.Session.{Session as CodeSession}
use Rattle.gdb_session.specs.declared.stub.Stub.{Stub}

-- nothing was written
pub grown_none : (old : Option (List ℕ)) → grown old [] ≡ old
grown_none None = refl
grown_none (Some written) = ap Some (append-nil written)

-- some bytes, and others after them
pub text_append : (history : ℕ) (s : Setup) (talk : Talk) (a b : List ℕ) → talk_text history s talk (a ++ b) ≡ talk_text history s talk a ++ talk_text history s (after_bytes history s talk a) b
unfolding talk_text after_bytes
text_append history s talk [] b = refl
text_append history s talk (byte ∷ a) b =
    ap (λ (rest : List ℕ). (taken history s talk byte).text ++ rest) (text_append history s (went_on history s talk byte) a b)
    ∙ sym (append_assoc (taken history s talk byte).text (talk_text history s (went_on history s talk byte) a) (talk_text history s (after_bytes history s (went_on history s talk byte) a) b))

pub after_append : (history : ℕ) (s : Setup) (talk : Talk) (a b : List ℕ) → after_bytes history s talk (a ++ b) ≡ after_bytes history s (after_bytes history s talk a) b
unfolding after_bytes
after_append history s talk [] b = refl
after_append history s talk (byte ∷ a) b = after_append history s (went_on history s talk byte) a b

-- one byte
one_text : (history : ℕ) (s : Setup) (talk : Talk) (byte : ℕ) → talk_text history s talk (byte ∷ []) ≡ (taken history s talk byte).text
unfolding talk_text
one_text history s talk byte = append-nil (taken history s talk byte).text

one_after : (history : ℕ) (s : Setup) (talk : Talk) (byte : ℕ) → after_bytes history s talk (byte ∷ []) ≡ went_on history s talk byte
unfolding after_bytes
one_after history s talk byte = refl

first_text : (history : ℕ) (s : Setup) (talk : Talk) (byte : ℕ) (bytes : List ℕ) → talk_text history s talk (byte ∷ bytes) ≡ (taken history s talk byte).text ++ talk_text history s (went_on history s talk byte) bytes
unfolding talk_text
first_text history s talk byte bytes = refl

-- what holds once so many of some bytes are taken
pub record Taking {D : Type 0} (history : ℕ) (s : Setup) (talk : Talk) (bytes : List ℕ) (count : ℕ) (old new : Option (List ℕ)) (stub : Stub D) : Type 0 where
  pub stands : TalkStandsFor s history (after_bytes history s talk (take count bytes)) stub
  pub written : new ≡ grown old (talk_text history s talk (take count bytes))

pub taking_start : {D : Type 0} (history : ℕ) (s : Setup) (talk : Talk) (bytes : List ℕ) (old : Option (List ℕ)) (stub : Stub D) → TalkStandsFor s history talk stub → Taking history s talk bytes 0 old old stub
unfolding talk_text after_bytes
taking_start history s talk bytes old stub h = record { stands = h; written = sym (grown_none old) }

pub taking_more : {D : Type 0} (history : ℕ) (s : Setup) (talk : Talk) (bytes : List ℕ) (count byte : ℕ) (old mid new : Option (List ℕ)) (stub fed : Stub D) → count < length bytes → byte ≡ get_or bytes count 0 →
    Taking history s talk bytes count old mid stub →
    TalkStandsFor s history (went_on history s (after_bytes history s talk (take count bytes)) byte) fed →
    new ≡ grown mid (taken history s (after_bytes history s talk (take count bytes)) byte).text →
    Taking history s talk bytes (count + 1) old new fed
taking_more history s talk bytes count byte old mid new stub fed within is so stands written =
    let front : List ℕ = take count bytes in
    let more : take (count + 1) bytes ≡ front ++ byte ∷ [] = take_more bytes count 0 within ∙ ap (λ (b : ℕ). front ++ b ∷ []) (sym is) in
    let later_talk : Talk = after_bytes history s talk front in
    record {
      stands =
          let after : after_bytes history s talk (take (count + 1) bytes) ≡ went_on history s later_talk byte =
          ap (after_bytes history s talk) more ∙ after_append history s talk front (byte ∷ []) ∙ one_after history s later_talk byte in
          subst (λ (t : Talk). TalkStandsFor s history t fed) (sym after) stands;
      written =
          let text : talk_text history s talk (take (count + 1) bytes) ≡ talk_text history s talk front ++ (taken history s later_talk byte).text =
          ap (talk_text history s talk) more ∙ text_append history s talk front (byte ∷ [])
          ∙ ap (λ (t : List ℕ). talk_text history s talk front ++ t) (one_text history s later_talk byte) in
          written ∙ ap (λ (w : Option (List ℕ)). grown w (taken history s later_talk byte).text) so.written
          ∙ grown_twice old (talk_text history s talk front) (taken history s later_talk byte).text
          ∙ ap (grown old) (sym text);
    }

-- all of them
pub taking_all : {D : Type 0} (history : ℕ) (s : Setup) (talk : Talk) (bytes : List ℕ) (count : ℕ) (old new : Option (List ℕ)) (stub : Stub D) → length bytes ≤ count →
    Taking history s talk bytes count old new stub → TalkStandsFor s history (after_bytes history s talk bytes) stub × (new ≡ grown old (talk_text history s talk bytes))
taking_all history s talk bytes count old new stub past so =
    let all : take count bytes ≡ bytes = take_all count bytes past in
    (subst (λ (b : List ℕ). TalkStandsFor s history (after_bytes history s talk b) stub) all so.stands, so.written ∙ ap (λ (b : List ℕ). grown old (talk_text history s talk b)) all)

-- within one of them the sink fails
pub taking_breaks : {D : Type 0} (history : ℕ) (s : Setup) (talk : Talk) (bytes : List ℕ) (count byte before middle after : ℕ) (old mid new : Option (List ℕ)) (stub : Stub D) → count < length bytes → byte ≡ get_or bytes count 0 →
    Taking history s talk bytes count old mid stub → before ≤ middle →
    Breaks (taken history s (after_bytes history s talk (take count bytes)) byte).text middle after mid new → Breaks (talk_text history s talk bytes) before after old new
taking_breaks history s talk bytes count byte before middle after old mid new stub within is so later broken =
    let front : List ℕ = take count bytes in
    let back : List ℕ = drop (count + 1) bytes in
    let later_talk : Talk = after_bytes history s talk front in
    let parts : bytes ≡ front ++ byte ∷ back =
    sym (take-append-drop count bytes) ∙ ap (λ (rest : List ℕ). front ++ rest) (drop_more bytes count 0 within ∙ ap (λ (b : ℕ). b ∷ back) (sym is)) in
    let text : talk_text history s talk bytes ≡ talk_text history s talk front ++ ((taken history s later_talk byte).text ++ talk_text history s (went_on history s later_talk byte) back) =
    ap (talk_text history s talk) parts ∙ text_append history s talk front (byte ∷ back)
    ∙ ap (λ (t : List ℕ). talk_text history s talk front ++ t) (first_text history s later_talk byte back) in
    let same : after ≤ after = omega arith in
    subst (λ (t : List ℕ). Breaks t before after old new) (sym text)
    (breaks_second (talk_text history s talk front) so.written later (breaks_first (talk_text history s (went_on history s later_talk byte) back) same broken))

-- the content of a packet that ends with a byte stays
never : {P : Type 0} (a : Arrival) → None ≡ Some a → P
never a is = cc

content_by : (p : Place) (st : Stream) (byte : ℕ) (a : Arrival) → st.place ≡ p → arrival st byte ≡ Some a → (next st byte).content ≡ st.content
content_by place.Outside st byte a is ends = never a (rw is at ends)
content_by place.Content st byte a is ends = never a (rw is at ends)
content_by place.First st byte a is ends = never a (rw is at ends)
content_by (place.Second high) st byte a is ends = rw is refl

pub content_stays : (st : Stream) (byte : ℕ) (a : Arrival) → arrival st byte ≡ Some a → (next st byte).content ≡ st.content
content_stays st byte a ends = content_by st.place st byte a refl ends

-- what a packet leads to that ends with a byte
arrived_is : (history : ℕ) (s : Setup) (talk : Talk) (byte : ℕ) (a : Arrival) → arrival talk.stream byte ≡ Some a →
    arrived history s (next talk.stream byte).content (Some a) talk.session ≡ taken history s talk byte
arrived_is history s talk byte a ends =
    ap (λ (content : List ℕ). arrived history s content (Some a) talk.session) (content_stays talk.stream byte a ends)
    ∙ ap (λ (o : Option Arrival). arrived history s talk.stream.content o talk.session) (sym ends)

pub answered_stands : {D : Type 0} (history : ℕ) (s : Setup) (talk : Talk) (byte : ℕ) (a : Arrival) (stub : Stub D) → arrival talk.stream byte ≡ Some a →
    SessionStandsFor s history (arrived history s (next talk.stream byte).content (Some a) talk.session).session stub.session → StandsFor (next talk.stream byte) stub.receiver →
    TalkStandsFor s history (went_on history s talk byte) stub
answered_stands history s talk byte a stub ends h stream = record {
  session = subst (λ (p : Played). SessionStandsFor s history p.session stub.session) (arrived_is history s talk byte a ends) h;
  stream = stream;
}

pub answered_puts : (history : ℕ) (s : Setup) (talk : Talk) (byte : ℕ) (a : Arrival) (before after : ℕ) (old new : Option (List ℕ)) (r : Result (Unit {0}) Failed) → arrival talk.stream byte ≡ Some a →
    Puts (arrived history s (next talk.stream byte).content (Some a) talk.session).text before after old new r → Puts (taken history s talk byte).text before after old new r
answered_puts history s talk byte a before after old new r ends puts =
    subst (λ (p : Played). Puts p.text before after old new r) (arrived_is history s talk byte a ends) puts

-- where none ends with it
pub silent_stands : {D : Type 0} (history : ℕ) (s : Setup) (talk : Talk) (byte : ℕ) (stub : Stub D) → arrival talk.stream byte ≡ None →
    SessionStandsFor s history talk.session stub.session → StandsFor (next talk.stream byte) stub.receiver → TalkStandsFor s history (went_on history s talk byte) stub
silent_stands history s talk byte stub none h stream = record {
  session = subst (λ (o : Option Arrival). SessionStandsFor s history (arrived history s talk.stream.content o talk.session).session stub.session) (sym none) h;
  stream = stream;
}

pub silent_text : (history : ℕ) (s : Setup) (talk : Talk) (byte : ℕ) (old : Option (List ℕ)) → arrival talk.stream byte ≡ None → old ≡ grown old (taken history s talk byte).text
silent_text history s talk byte old none =
    sym (grown_none old) ∙ ap (λ (o : Option Arrival). grown old (arrived history s talk.stream.content o talk.session).text) (sym none)

-- a packet that is answered, and one that isn't
abbrev acknowledged : Bool → Arrival → Played → Played
acknowledged quiet a p = record p { text = acknowledgment quiet a ++ p.text }

arrived_by : (history : ℕ) (s : Setup) (content : List ℕ) (a : Arrival) (held : Session) (quiet is : Bool) → quiet ≡ held.quiet → is_answered quiet a ≡ is →
    acknowledged quiet a (answered history s is content held) ≡ arrived history s content (Some a) held
arrived_by history s content a held quiet is same test =
    ap (λ (q : Bool). acknowledged q a (answered history s is content held)) same
    ∙ ap (λ (b : Bool). acknowledged held.quiet a (answered history s b content held)) (sym test ∙ ap (λ (q : Bool). is_answered q a) same)

pub answer_stands : {D : Type 0} (history : ℕ) (s : Setup) (content : List ℕ) (a : Arrival) (held : Session) (quiet is : Bool) (session : CodeSession D) → quiet ≡ held.quiet → is_answered quiet a ≡ is →
    SessionStandsFor s history (answered history s is content held).session session → SessionStandsFor s history (arrived history s content (Some a) held).session session
answer_stands history s content a held quiet is session same test h =
    subst (λ (p : Played). SessionStandsFor s history p.session session) (arrived_by history s content a held quiet is same test) h

pub answer_puts : (history : ℕ) (s : Setup) (content : List ℕ) (a : Arrival) (held : Session) (quiet is : Bool) (before middle after : ℕ) (old mid new : Option (List ℕ)) (r : Result (Unit {0}) Failed) →
    quiet ≡ held.quiet → is_answered quiet a ≡ is → mid ≡ grown old (acknowledgment quiet a) → before ≤ middle → Puts (answered history s is content held).text middle after mid new r →
    Puts (arrived history s content (Some a) held).text before after old new r
answer_puts history s content a held quiet is before middle after old mid new r same test first later puts =
    subst (λ (p : Played). Puts p.text before after old new r) (arrived_by history s content a held quiet is same test)
    (puts_second (acknowledgment quiet a) (answered history s is content held).text after old new r first later puts)

pub answer_breaks : (history : ℕ) (s : Setup) (content : List ℕ) (a : Arrival) (held : Session) (quiet : Bool) (before after : ℕ) (old new : Option (List ℕ)) → quiet ≡ held.quiet →
    Breaks (acknowledgment quiet a) before after old new → Breaks (arrived history s content (Some a) held).text before after old new
answer_breaks history s content a held quiet before after old new same broken =
    let is : Bool = is_answered quiet a in
    let unmoved : after ≤ after = omega arith in
    subst (λ (p : Played). Breaks p.text before after old new) (arrived_by history s content a held quiet is same refl)
    (breaks_first (answered history s is content held).text unmoved broken)

pub answered_ok : {D : Type 0} (history : ℕ) (s : Setup) (talk : Talk) (byte : ℕ) (a : Arrival) (stub : Stub D) (r : Result (Unit {0}) Failed) → arrival talk.stream byte ≡ Some a →
    IfOk r (λ _. SessionStandsFor s history (arrived history s (next talk.stream byte).content (Some a) talk.session).session stub.session) → StandsFor (next talk.stream byte) stub.receiver →
    IfOk r (λ _. TalkStandsFor s history (went_on history s talk byte) stub)
answered_ok history s talk byte a stub (Ok done) ends h stream = answered_stands history s talk byte a stub ends h stream
answered_ok history s talk byte a stub (Err failed) ends h stream = h

pub answer_ok : {D : Type 0} (history : ℕ) (s : Setup) (content : List ℕ) (a : Arrival) (held : Session) (quiet is : Bool) (session : CodeSession D) (r : Result (Unit {0}) Failed) → quiet ≡ held.quiet → is_answered quiet a ≡ is →
    SessionStandsFor s history (answered history s is content held).session session → IfOk r (λ _. SessionStandsFor s history (arrived history s content (Some a) held).session session)
answer_ok history s content a held quiet is session (Ok done) same test h = answer_stands history s content a held quiet is session same test h
answer_ok history s content a held quiet is session (Err failed) same test h = tt
