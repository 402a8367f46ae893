-- What happens while a sign is served, event by event.
use Rattle.std.proofs.Common.{◌≡◌, ℕ, List, [], ◌∷◌, ◌++◌, Option, Some, Result, Ok, Err, refl, sym, ap, ◌∙◌, subst, append_assoc, append-nil}
use Rattle.std.proofs.lemmas.List.{append_cancel_right}
use Rattle.std.proofs.lemmas.List.Concat.{flat_map-append}
use Rattle.std.specs.Io.KnownBytes.{Appends, Consumes}
use Rattle.std.proofs.KnownBytes.{Appends-nil, Consumes-kept, Consumes-nil}
use Rattle.tool_streams.specs.Blocks.{ReadsMore}
use Rattle.tool_streams.specs.Streams.{WritesWhole}
use Rattle.tool_streams.specs.declared.fault.ToolFault.{ToolFault}
use Rattle.sign_tool.specs.Runs.{fault_of}
use Rattle.sign_tool.specs.Serving.{ServerData, replies_so_far, replies_to_all}
use Rattle.sign_tool.specs.Talk.{AreSaid, Event, Heard, Hears, IsTimely, IsTimelyAfter, Said, Says, SaysLast, SaysReady, SaysSome, ServesInTime, heard, heard_by, said, said_by}
use Rattle.sign_tool.specs.internal.Streams.{Did}

heard-append : (xs ys : List Event) → heard (xs ++ ys) ≡ heard xs ++ heard ys
heard-append = flat_map-append heard_by

said-append : (xs ys : List Event) → said (xs ++ ys) ≡ said xs ++ said ys
said-append = flat_map-append said_by

-- something more is written
timely_said : (server : ServerData) (read written : List ℕ) (xs : List Event) (octets : List ℕ) → IsTimelyAfter server read written xs
    → IsTimelyAfter server read written (xs ++ Said octets ∷ [])
timely_said server read written [] octets t = tt
timely_said server read written (Heard o ∷ xs) octets t = (t.0, timely_said server (read ++ o) written xs octets t.1)
timely_said server read written (Said o ∷ xs) octets t = timely_said server read (written ++ o) xs octets t

-- something more is read
timely_heard : (server : ServerData) (read written : List ℕ) (xs : List Event) (octets : List ℕ) → IsTimelyAfter server read written xs
    → written ++ said xs ≡ replies_so_far server (read ++ heard xs) → IsTimelyAfter server read written (xs ++ Heard octets ∷ [])
timely_heard server read written [] octets t up = (sym (append-nil written) ∙ up ∙ ap (replies_so_far server) (append-nil read), tt)
timely_heard server read written (Heard o ∷ xs) octets t up =
    (t.0, timely_heard server (read ++ o) written xs octets t.1 (up ∙ ap (replies_so_far server) (sym (append_assoc read o (heard xs)))))
timely_heard server read written (Said o ∷ xs) octets t up =
    timely_heard server read (written ++ o) xs octets t (append_assoc written o (said xs) ∙ up)

-- these octets were read and these written, in time
pub record Talking (server : ServerData) (Did : List Event → Type 0) (read gone : List ℕ) : Type 0 where
  pub events : List Event
  pub did : Did events
  pub timely : IsTimely server events
  pub heard_is : heard events ≡ read
  pub said_is : said events ≡ gone

pub begins : (server : ServerData) (Did : List Event → Type 0) → Did [] → Talking server Did [] []
begins server Did did = record { events = []; did = did; timely = tt; heard_is = refl; said_is = refl }

-- a fault ends the run
pub in_time : (server : ServerData) (Did : List Event → Type 0) (read gone : List ℕ) (fault : ToolFault) → Talking server Did read gone → ServesInTime server Did (Some fault)
in_time server Did read gone fault t = (t.events, t.did, t.timely, tt)

module _ (server : ServerData) (Before Then After : List Event → Type 0) (joins : (xs ys : List Event) → Before xs → Then ys → After (xs ++ ys)) (read gone : List ℕ)
    (t : Talking server Before read gone) where
  -- octets are written at once
  pub said_at_once : (octets : List ℕ) → Then (Said octets ∷ []) → Talking server After read (gone ++ octets)
  said_at_once octets did = record {
    events = t.events ++ Said octets ∷ [];
    did = joins t.events (Said octets ∷ []) t.did did;
    timely = timely_said server [] [] t.events octets t.timely;
    heard_is = heard-append t.events (Said octets ∷ []) ∙ append-nil (heard t.events) ∙ t.heard_is;
    said_is = said-append t.events (Said octets ∷ []) ∙ ap (λ l. said t.events ++ l) (append-nil octets) ∙ ap (λ l. l ++ octets) t.said_is;
  }

  -- some octets are written, or nothing
  pub said_more : (events : List Event) (sent : List ℕ) → Then events → AreSaid events sent → Talking server After read (gone ++ sent)
  said_more [] sent did are = record {
    events = t.events ++ [];
    did = joins t.events [] t.did did;
    timely = subst (IsTimely server) (sym (append-nil t.events)) t.timely;
    heard_is = ap heard (append-nil t.events) ∙ t.heard_is;
    said_is = ap said (append-nil t.events) ∙ t.said_is ∙ sym (append-nil gone) ∙ ap (λ l. gone ++ l) (sym are);
  }
  said_more (Said octets ∷ []) sent did are = subst (λ l. Talking server After read (gone ++ l)) (sym are) (said_at_once octets did)
  said_more (Said octets ∷ event ∷ events) sent did are = absurd are
  said_more (Heard octets ∷ events) sent did are = absurd are

  -- octets are read, or the end is, or that fails
  pub heard_more : (octets : List ℕ) → Then (Heard octets ∷ []) → gone ≡ replies_so_far server read → Talking server After (read ++ octets) gone
  heard_more octets did up = record {
    events = t.events ++ Heard octets ∷ [];
    did = joins t.events (Heard octets ∷ []) t.did did;
    timely = timely_heard server [] [] t.events octets t.timely (t.said_is ∙ up ∙ ap (replies_so_far server) (sym t.heard_is));
    heard_is = heard-append t.events (Heard octets ∷ []) ∙ ap (λ l. heard t.events ++ l) (append-nil octets) ∙ ap (λ l. l ++ octets) t.heard_is;
    said_is = said-append t.events (Heard octets ∷ []) ∙ append-nil (said t.events) ∙ t.said_is;
  }

  -- a run ends after octets, or none, are written
  pub ends_saying : (fault : ToolFault) → SaysSome Then → ServesInTime server After (Some fault)
  ends_saying fault says = in_time server After read (gone ++ says.1) fault (said_more says.0 says.1 says.2 says.3)

  -- or after that failed
  pub ends_unsaid : (ready ready' : List ℕ) (fault : ToolFault) → SaysReady Then ready ready' (Err fault) → ServesInTime server After (Some fault)
  ends_unsaid ready ready' fault says = in_time server After read (gone ++ says.0) fault (said_at_once says.0 says.1)

  -- or after a read that failed
  pub ends_unheard : (held held' : List ℕ) (fault : ToolFault) → gone ≡ replies_so_far server read → Hears Then held held' (Err fault) → ServesInTime server After (Some fault)
  ends_unheard held held' fault up did = in_time server After (read ++ []) gone fault (heard_more [] did up)

  -- or with the last replies
  pub ends_said : (last : List ℕ) (result : Result (Unit {0}) ToolFault) → replies_to_all server read ≡ gone ++ last → SaysLast Then last result → ServesInTime server After (fault_of result)
  ends_said last (Ok done) all did =
      let t' = said_at_once last did in
      (t'.events, t'.did, t'.timely, t'.said_is ∙ sym all ∙ ap (replies_to_all server) (sym t'.heard_is))
  ends_said last (Err fault) all says = ends_saying fault says

  -- what is ready is written, as far as it is
  pub said_ready : (ready ready' gone' : List ℕ) (read' : List ℕ) → SaysReady Then ready ready' (Ok tt) → gone' ++ ready' ≡ gone ++ ready → read' ≡ read
      → Talking server After read' gone'
  said_ready ready ready' gone' read' says all same =
      let (events, sent, did, are, parts) = says in
      let gone_is : gone ++ sent ≡ gone' =
      append_cancel_right (gone ++ sent) gone' ready' (append_assoc gone sent ready' ∙ ap (λ l. gone ++ l) parts ∙ sym all) in
      subst (λ l. Talking server After l gone') (sym same) (subst (λ l. Talking server After read l) gone_is (said_more events sent did are))

  -- more is read
  pub heard_on : (held held' front : List ℕ) (count : ℕ) → read ≡ front ++ held → gone ≡ replies_so_far server read → Hears Then held held' (Ok count)
      → Talking server After (front ++ held') gone
  heard_on held held' front count is up hears =
      let (more, did, grown) = hears in
      let all : read ++ more ≡ front ++ held' = ap (λ l. l ++ more) is ∙ append_assoc front held more ∙ ap (λ l. front ++ l) (sym grown) in
      subst (λ l. Talking server After l gone) all (heard_more more did up)

-- ---- a reader and a writer

pub stream_hears : (input input' output : Option (List ℕ)) (held held' : List ℕ) (most : ℕ) (result : Result ℕ ToolFault)
    → ReadsMore input input' held held' most result → Hears (Did input input' output output) held held' result
stream_hears input input' output held held' most (Ok count) r =
    (r.0, (subst (Consumes input input') (sym (append-nil r.0)) r.1, Appends-nil output), r.2)
stream_hears input input' output held held' most (Err e) r = (Consumes-kept input input input' [] (Consumes-nil input) r.1, Appends-nil output)

pub stream_says : (input output output' : Option (List ℕ)) (octets : List ℕ) (result : Result (Unit {0}) ToolFault)
    → WritesWhole output output' octets result → Says (Did input input output output') octets result
stream_says input output output' octets (Ok done) w = (Consumes-nil input, subst (Appends output output') (sym (append-nil octets)) w)
stream_says input output output' octets (Err e) w =
    (w.1, (w.2, sym w.4), (Consumes-nil input, subst (Appends output output') (sym (append-nil w.1)) w.3))
