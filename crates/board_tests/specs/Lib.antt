pub mod WorkerSlots
